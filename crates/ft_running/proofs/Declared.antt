-- Rules and variables stay where items are added.
use Rattle.std.proofs.Common.{◌≡◌, ◌≤◌, ◌∙◌, ◌++◌, ℕ, List, [], ◌∷◌, length, ap, ap₂, sym, refl, subst, Some, None, Bool, true, false, arith, nat_eq, if◌then◌else◌}
use Rattle.ft_theory.specs.Rules.{Rule, look_up}
use Rattle.ft_laws.proofs.Rules.{look_before}
use Rattle.ft_laws.proofs.Admissible.{rule_before}
use Rattle.ft_items.specs.Item.{Name, Item, variable, metavariable, rule, entry, shown}
use Rattle.ft_items.specs.Store.{Assertion, Annotation, Declared, Declarations, Store, store_of, empty_store, declared_by, add, add_all, add_variable, add_rule, entry_named, metavariable_named, each, declared_variable, declared_rule, rule_named, rules_in, variables_in}
use Rattle.ft_items.proofs.Lists.{store_append}
use Rattle.ft_kernel.specs.State.{State, variable_numbered, IsThesisOf}
use Rattle.ft_apply.specs.Named.{AreThesesOf}
use Rattle.ft_values.specs.Kept.{GoesOn, stated, stated_at}
use Rattle.ft_values.proofs.Staying.{entry_goes_on}
use Rattle.ft_telling.specs.Telling.{variable_at, annotation_or}
use Rattle.ft_running.specs.Evaluation.{Evaluation, GoesFurther}
use Rattle.ft_running.specs.Asked.{IsRuleOf, IsVariableIn, rule_in, rule_or, judgements_of}
use Rattle.ft_running.proofs.Further.{thesis_further}
use Rattle.std.specs.Prelude.{Option, option_map}

-- what stands of rules and variables in the first declarations stands in the second
record StandsIn (W X : Declarations) : Type 0 where
  rules : (r : ℕ) (R : ℕ × Rule) → rule_named W r ≡ Some R → rule_named X r ≡ Some R
  variables : (v : ℕ) (d : Annotation) → look_up W.variables v ≡ Some d → look_up X.variables v ≡ Some d

stands_then : (W X Y : Declarations) → StandsIn W X → StandsIn X Y → StandsIn W Y
stands_then W X Y f g = record { rules = λ r R h. g.rules r R (f.rules r R h); variables = λ v d h. g.variables v d (f.variables v d h) }

stands_same : (W : Declarations) → StandsIn W W
stands_same W = record { rules = λ r R h. h; variables = λ v d h. h }

one_variable : (W : Declarations) (v : ℕ) (n : Name) (o : Option Assertion) → StandsIn W (add_variable W v n o)
one_variable W v n None = stands_same W
one_variable W v n (Some a) = record {
  rules = λ r R h. h;
  variables = λ w d h. look_before W.variables ((v, declared_variable n a) ∷ []) w d h;
}

one_metavariable : (W : Declarations) (n : Name) (o : Option Assertion) → StandsIn W (Rattle.ft_items.specs.Store.add_metavariable W n o)
one_metavariable W n None = stands_same W
one_metavariable W n (Some a) = record { rules = λ r R h. h; variables = λ v d h. h }

named_before : (T U : List Rule) (r : ℕ) (R : ℕ × Rule) (o : Option Rule) → Rattle.ft_theory.specs.Rules.rule_at T r ≡ o
    → option_map (λ S. (r, S)) o ≡ Some R
    → option_map (λ S. (r, S)) (Rattle.ft_theory.specs.Rules.rule_at (T ++ U) r) ≡ Some R
named_before T U r R None e h = cc
named_before T U r R (Some S) e h = ap (option_map (λ S. (r, S))) (rule_before T U r S e) ∙ h

one_rule : (W : Declarations) (n : Name) (ms : Option (List (ℕ × Declared))) (o : Option Assertion) → StandsIn W (add_rule W n ms o)
one_rule W n None o = stands_same W
one_rule W n (Some ms) None = stands_same W
one_rule W n (Some ms) (Some a) = record {
  rules = λ r R h. named_before W.rules (declared_rule ms a ∷ []) r R (Rattle.ft_theory.specs.Rules.rule_at W.rules r) refl h;
  variables = λ v d h. h;
}

one_item : (W : Store) (i : Item) → StandsIn W.declarations (add W i).declarations
one_item W (variable v n p) = one_variable W.declarations v n (entry_named W p)
one_item W (metavariable n p) = one_metavariable W.declarations n (entry_named W p)
one_item W (rule n ms p) = one_rule W.declarations n (each (metavariable_named W.declarations) ms) (entry_named W p)
one_item W (entry e) = stands_same W.declarations
one_item W (shown p) = stands_same W.declarations

all_items : (W : Store) (more : List Item) → StandsIn W.declarations (add_all W more).declarations
all_items W [] = stands_same W.declarations
all_items W (i ∷ more) =
    stands_then W.declarations (add W i).declarations (add_all (add W i) more).declarations
    (one_item W i) (all_items (add W i) more)

stands_on : (s t : State) → GoesOn s t → StandsIn (declared_by s.items) (declared_by t.items)
stands_on s t g =
    subst (λ (W : Store). StandsIn (declared_by s.items) W.declarations)
    (sym (ap store_of g.1 ∙ store_append empty_store s.items g.0))
    (all_items (store_of s.items) g.0)

rules_longer : (xs ys : List Item) → length (rules_in xs) ≤ length (rules_in (xs ++ ys))
rules_longer [] ys = omega arith
rules_longer (variable v n p ∷ xs) ys = rules_longer xs ys
rules_longer (metavariable n p ∷ xs) ys = rules_longer xs ys
rules_longer (rule n ms p ∷ xs) ys = omega (arith, rules_longer xs ys)
rules_longer (entry e ∷ xs) ys = rules_longer xs ys
rules_longer (shown p ∷ xs) ys = rules_longer xs ys

numbered_still : (xs ys : List Item) (v : ℕ) (x : Name × ℕ) → variable_numbered (variables_in xs) v ≡ Some x
    → variable_numbered (variables_in (xs ++ ys)) v ≡ Some x
numbered_still [] ys v x h = cc
numbered_still (variable w n p ∷ xs) ys v x h = go (nat_eq w v) h (numbered_still xs ys v x)
  where
    go : (b : Bool) → (if b then Some (n, p) else variable_numbered (variables_in xs) v) ≡ Some x
        → (variable_numbered (variables_in xs) v ≡ Some x → variable_numbered (variables_in (xs ++ ys)) v ≡ Some x)
        → (if b then Some (n, p) else variable_numbered (variables_in (xs ++ ys)) v) ≡ Some x
    go true h ih = h
    go false h ih = ih h
numbered_still (metavariable n p ∷ xs) ys v x h = numbered_still xs ys v x h
numbered_still (rule n ms p ∷ xs) ys v x h = numbered_still xs ys v x h
numbered_still (entry e ∷ xs) ys v x h = numbered_still xs ys v x h
numbered_still (shown p ∷ xs) ys v x h = numbered_still xs ys v x h

-- a rule stays one of the state, and what it is
pub rule_further : (e f : Evaluation) (r : ℕ) → GoesFurther e f → IsRuleOf e r → IsRuleOf f r
rule_further e f r g h =
    let longer : length (rules_in e.list.items) ≤ length (rules_in f.list.items) =
    subst (λ items. length (rules_in e.list.items) ≤ length (rules_in items)) (sym g.list.1) (rules_longer e.list.items g.list.0) in
    (omega (arith, longer, h.0), h.1, (stands_on e.list f.list g.list).rules r h.1 h.2)

pub rule_means_further : (e f : Evaluation) (r : ℕ) → GoesFurther e f → IsRuleOf e r → rule_in f r ≡ rule_in e r
rule_means_further e f r g h = ap rule_or ((stands_on e.list f.list g.list).rules r h.1 h.2 ∙ sym h.2)

-- a variable stays one of the state, with what is declared under it
pub variable_further : (e f : Evaluation) (y : ℕ) → GoesFurther e f → IsVariableIn e y → IsVariableIn f y
variable_further e f y g h =
    let numbered : variable_numbered (variables_in f.list.items) y ≡ Some h.0.0 =
    subst (λ items. variable_numbered (variables_in items) y ≡ Some h.0.0) (sym g.list.1) (numbered_still e.list.items g.list.0 y h.0.0 h.0.1) in
    ((h.0.0, numbered), h.1, (stands_on e.list f.list g.list).variables y h.1 h.2)

pub variable_means_further : (e f : Evaluation) (y : ℕ) → GoesFurther e f → IsVariableIn e y → variable_at f.list y ≡ variable_at e.list y
variable_means_further e f y g h =
    ap (λ o. (y, annotation_or o)) ((stands_on e.list f.list g.list).variables y h.1 h.2 ∙ sym h.2)

-- theses stay theses, with what they state
pub theses_further : (e f : Evaluation) (js : List ℕ) → GoesFurther e f → AreThesesOf e.list js → AreThesesOf f.list js
theses_further e f [] g h = tt
theses_further e f (j ∷ js) g h = (thesis_further e f j g h.0, theses_further e f js g h.1)

pub stated_further : (e f : Evaluation) (j : ℕ) → GoesFurther e f → IsThesisOf e.list j → stated_at f.list j ≡ stated_at e.list j
stated_further e f j g h = ap stated (entry_goes_on e.list f.list j h.0 (g.list.0, g.list.1) h.1 ∙ sym h.1)

pub judgements_further : (e f : Evaluation) (js : List ℕ) → GoesFurther e f → AreThesesOf e.list js
    → judgements_of f js ≡ judgements_of e js
judgements_further e f [] g h = refl
judgements_further e f (j ∷ js) g h =
    ap₂ (λ a b. a ∷ b) (stated_further e f j g h.0) (judgements_further e f js g h.1)
