-- Parts that are all built.
use Rattle.std.proofs.Common.{◌≡◌, ℕ, Bool, true, false, cond, Option, Some, None, List, [], ◌∷◌, ◌++◌, refl}
use Rattle.ft_common.proofs.Options.{some_none}
use Rattle.ft_grammar.specs.declared.form.OneForm.{OneForm}
use Rattle.ft_grammar.specs.declared.form.OneForm.TheVariants as single
use Rattle.ft_grammar.specs.declared.form.TwoForm.{TwoForm}
use Rattle.ft_grammar.specs.declared.form.TwoForm.TheVariants as double
use Rattle.ft_meaning.specs.Stages.{SourcePart, programs, applications, no_equality, first_not_built, word_feature, word_feature_of_two}
use Rattle.ft_running.specs.Asked.{IsNoNormal, IsNoEqual}

-- none of the parts is one of the equality checker
abbrev pub IsBuilt : List SourcePart → Type 0
IsBuilt ps = first_not_built no_equality ps ≡ None

-- of two rows of parts both
pub both_built : (ps qs : List SourcePart) → IsBuilt (ps ++ qs) → IsBuilt ps × IsBuilt qs
both_built [] qs h = (refl, h)
both_built (p ∷ ps) qs h = go (no_equality p.0) h (both_built ps qs)
  where
    go : (b : Bool) → cond b (first_not_built no_equality (ps ++ qs)) (Some p.1) ≡ None → (IsBuilt (ps ++ qs) → IsBuilt ps × IsBuilt qs)
        → (cond b (first_not_built no_equality ps) (Some p.1) ≡ None) × IsBuilt qs
    go true k both = both k
    go false k both = some_none k

-- a word before one atom is not `normal`, and what stands after it is built
pub word_built : (w : OneForm) (at : ℕ) (o : Option ℕ) → cond (no_equality (word_feature w)) o (Some at) ≡ None → IsNoNormal w × (o ≡ None)
word_built single.Normal at o h = some_none h
word_built w at o h = (tt, h)

-- a word before two atoms is not `equal`
pub word_built_of_two : (w : TwoForm) (at : ℕ) (o : Option ℕ) → cond (no_equality (word_feature_of_two w)) o (Some at) ≡ None → IsNoEqual w × (o ≡ None)
word_built_of_two double.Equal at o h = some_none h
word_built_of_two w at o h = (tt, h)

-- what a call is of is built, so its atoms are
pub call_built : (b : Bool) (at : ℕ) (o : Option ℕ) → cond (no_equality (cond b programs applications)) o (Some at) ≡ None → o ≡ None
call_built true at o h = h
call_built false at o h = h
