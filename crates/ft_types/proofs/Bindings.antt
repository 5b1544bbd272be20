-- The names of patterns.
use Rattle.std.proofs.Common.{◌≡◌, ◌∙◌, ◌++◌, sym, ap, subst, refl, ℕ, List, [], ◌∷◌, length, map, Ok, Err}
use Rattle.std.specs.Prelude.{Result, ◌≢◌}
use Rattle.ft_equality.specs.Results.{◌>>=◌, ◌>>◌, ensure}
use Rattle.ft_grammar.specs.declared.syntax.Named.{Named}
use Rattle.ft_grammar.specs.declared.syntax.Pattern.{Pattern as AnyPattern}
use Rattle.ft_grammar.specs.declared.syntax.Pattern.TheVariants as any
use Rattle.ft_meaning.proofs.Written.{pattern_Symbol}
use Rattle.ft_meaning.specs.Trees.{ValueType, judgement, boundary, unit, bool, pair, list, option, Pattern, cons_pattern, some_pattern, none_pattern, nil_pattern, pair_pattern, symbol_pattern, pattern, patterns}
use Rattle.ft_meaning.specs.Typing.{Scope, Bindings, bindings, all_bindings, Unbound, fault_at, meant_by, ensure_arity, pattern_count, ensure_type}
use Rattle.ft_types.specs.declared.fault.TypeWhy.TheVariants as why
use Rattle.ft_types.specs.declared.fault.TypeFault.{TypeFault as AnyFault}
use Rattle.ft_types.specs.declared.types.KnownType.{KnownType}
use Rattle.ft_types.specs.declared.names.Entry.{Entry}
use Rattle.ft_types.specs.Types.{type_in, Below}
use Rattle.ft_types.specs.Names.{listed}
use Rattle.ft_types.specs.Checking.{renamed, ValuesBelow, bound, list_wanted, option_wanted, pair_wanted, symbol_wanted, fault_of}
use Rattle.ft_types.proofs.Counts.{count_patterns}
use Rattle.ft_types.proofs.Listed.{listed_append}

pub bindings_cons : (at : ℕ) (p q : Pattern) (s : Scope) (A : ValueType) (bs : Bindings) → bindings (cons_pattern at p q) s A bs ≡ (list_wanted at A >>= λ B. bindings p s B bs >>= bindings q s A)
bindings_cons at p q s judgement bs = refl
bindings_cons at p q s boundary bs = refl
bindings_cons at p q s unit bs = refl
bindings_cons at p q s bool bs = refl
bindings_cons at p q s (pair A B) bs = refl
bindings_cons at p q s (list A) bs = refl
bindings_cons at p q s (option A) bs = refl

pub bindings_some : (at : ℕ) (p : Pattern) (s : Scope) (A : ValueType) (bs : Bindings) → bindings (some_pattern at p) s A bs ≡ (option_wanted at A >>= λ B. bindings p s B bs)
bindings_some at p s judgement bs = refl
bindings_some at p s boundary bs = refl
bindings_some at p s unit bs = refl
bindings_some at p s bool bs = refl
bindings_some at p s (pair A B) bs = refl
bindings_some at p s (list A) bs = refl
bindings_some at p s (option A) bs = refl

pub bindings_none : (at : ℕ) (s : Scope) (A : ValueType) (bs : Bindings) → bindings (none_pattern at) s A bs ≡ (option_wanted at A >>= λ B. Ok bs)
bindings_none at s judgement bs = refl
bindings_none at s boundary bs = refl
bindings_none at s unit bs = refl
bindings_none at s bool bs = refl
bindings_none at s (pair A B) bs = refl
bindings_none at s (list A) bs = refl
bindings_none at s (option A) bs = refl

pub bindings_nil : (at : ℕ) (s : Scope) (A : ValueType) (bs : Bindings) → bindings (nil_pattern at) s A bs ≡ (list_wanted at A >>= λ B. Ok bs)
bindings_nil at s judgement bs = refl
bindings_nil at s boundary bs = refl
bindings_nil at s unit bs = refl
bindings_nil at s bool bs = refl
bindings_nil at s (pair A B) bs = refl
bindings_nil at s (list A) bs = refl
bindings_nil at s (option A) bs = refl

pub bindings_pair : (at : ℕ) (p q : Pattern) (s : Scope) (A : ValueType) (bs : Bindings) → bindings (pair_pattern at p q) s A bs ≡ (pair_wanted at A >>= λ B. bindings p s B.0 bs >>= bindings q s B.1)
bindings_pair at p q s judgement bs = refl
bindings_pair at p q s boundary bs = refl
bindings_pair at p q s unit bs = refl
bindings_pair at p q s bool bs = refl
bindings_pair at p q s (pair A B) bs = refl
bindings_pair at p q s (list A) bs = refl
bindings_pair at p q s (option A) bs = refl

assoc : {A C E : Type 0} (m : Result A E) (f : A → Result (Unit {0}) E) (g : A → Result (Unit {0}) E) (r : Result C E)
    → (m >>= λ a. f a >> (g a >> r)) ≡ ((m >>= λ a. f a >> g a) >> r)
assoc {C = C} {E = E} (Ok a) f g r = go (f a) (g a)
  where
    go : (x y : Result (Unit {0}) E) → (x >> (y >> r)) ≡ ((x >> y) >> r)
    go (Ok u) y = refl
    go (Err e) y = refl
assoc (Err e) f g r = refl

bindings_symbol : (at : ℕ) (n : Named) (ps : List AnyPattern) (s : Scope) (A : ValueType) (bs : Bindings)
    → bindings (symbol_pattern at n (patterns (map pattern ps))) s A bs ≡ (ensure_type at judgement A >> (symbol_wanted n (length ps) s >> all_bindings (patterns (map pattern ps)) s bs))
unfolding symbol_wanted
bindings_symbol at n ps s A bs =
    ap (λ r. ensure_type at judgement A >> r)
    (assoc (meant_by s.rules n) (λ r. ensure r.is_symbol (fault_at n.at (Unbound n.name))) (λ r. ensure_arity n r.premises (pattern_count (patterns (map pattern ps)))) (all_bindings (patterns (map pattern ps)) s bs)
    ∙ ap (λ k. symbol_wanted n k s >> all_bindings (patterns (map pattern ps)) s bs) (count_patterns ps))

pub symbol_fails : (p : AnyPattern) (at : ℕ) (n : Named) (ps : List AnyPattern) (k : ℕ) (s : Scope) (A : ValueType) (bs : Bindings) (e : AnyFault) → p ≡ any.Symbol at n ps
    → ensure_type at judgement A ≡ Ok tt → k ≡ length ps → (e.why ≢ why.Memory → symbol_wanted n k s ≡ Err (fault_of e)) → e.why ≢ why.Memory → bindings (pattern p) s A bs ≡ Err (fault_of e)
symbol_fails p at n ps k s A bs e is w same g told =
    let h = g told in
    ap (λ q. bindings q s A bs) (ap pattern is ∙ pattern_Symbol at n ps)
    ∙ bindings_symbol at n ps s A bs ∙ ap (λ r. r >> (symbol_wanted n (length ps) s >> all_bindings (patterns (map pattern ps)) s bs)) w
    ∙ ap (λ r. r >> all_bindings (patterns (map pattern ps)) s bs) (ap (λ m. symbol_wanted n m s) (sym same) ∙ h)

pub symbol_goes : (p : AnyPattern) (at : ℕ) (n : Named) (ps : List AnyPattern) (k : ℕ) (s : Scope) (A : ValueType) (bs : Bindings) → p ≡ any.Symbol at n ps
    → ensure_type at judgement A ≡ Ok tt → k ≡ length ps → symbol_wanted n k s ≡ Ok tt → bindings (pattern p) s A bs ≡ all_bindings (patterns (map pattern ps)) s bs
symbol_goes p at n ps k s A bs is w same h =
    ap (λ q. bindings q s A bs) (ap pattern is ∙ pattern_Symbol at n ps)
    ∙ bindings_symbol at n ps s A bs ∙ ap (λ r. r >> (symbol_wanted n (length ps) s >> all_bindings (patterns (map pattern ps)) s bs)) w
    ∙ ap (λ r. r >> all_bindings (patterns (map pattern ps)) s bs) (ap (λ m. symbol_wanted n m s) (sym same) ∙ h)

pub bound_more : (ts : List ValueType) (xs : List (Entry KnownType)) (x : Entry KnownType) → bound ts (xs ++ x ∷ []) ≡ (x.name, type_in ts x.meaning) ∷ bound ts xs
bound_more ts xs x = ap (renamed (type_in ts)) (listed_append [] xs (x ∷ []))

pub found_below : (n : ℕ) (xs : List (Entry KnownType)) (x : Entry KnownType) → Below n x.meaning → ValuesBelow n (listed xs) → ValuesBelow n (listed (xs ++ x ∷ []))
found_below n xs x h k = subst (λ l. ValuesBelow n l) (sym (listed_append [] xs (x ∷ []))) (h, k)
