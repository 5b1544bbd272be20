-- Of which kind the entries are that a step names.
use Rattle.std.proofs.Common.{◌≡◌, ℕ, zero, suc, ◌<◌, ◌≤◌, nat_eq, nat_lt, Bool, true, false, cond, ◌&&◌, not, Option, Some, None, List, [], ◌∷◌, ◌++◌, refl, sym, ap, ◌∙◌, length, map, arith}
use Rattle.std.specs.Prelude.{option_map}
use Rattle.std.proofs.lemmas.Bool.{ltb-true, ltb-false}
use Rattle.ft_theory.specs.Rules.{Rule, rule_at, look_up}
use Rattle.ft_items.specs.Equal.{is_thesis}
use Rattle.ft_items.specs.Item.{Name, Item}
use Rattle.ft_items.specs.Store.{Assertion, annotated, Resolved, with_three, with_four, nth, entries_in, variables_in, metavariables_in, rules_in, declared_by}
use Rattle.ft_items.specs.Good.{Good, all_theses}
use Rattle.ft_items.proofs.Lists.{store_is, annotated_number}
use Rattle.ft_check.specs.Entries.{no_variable}
use Rattle.ft_check.specs.Kinds.{both, also, variable_there, metavariable_there, rule_there}
use Rattle.ft_check.proofs.Basics.{nth_map}
use Rattle.ft_check.proofs.Naming.{rules_many}

-- Tests of what is there, one thing or more.
pub shape_three : {A B C : Type 0} (K : Resolved → Bool) (f : A → B → C → Resolved) (g : A → Bool) (l : B → Bool) (m : C → Bool) (c : Bool) → ((a : A) (b : B) (d : C) → ((g a && (l b && m d)) && c) ≡ K (f a b d)) → (o : Option A) (p : Option B) (q : Option C)
    → also (both (option_map g o) (both (option_map l p) (option_map m q))) c ≡ option_map K (with_three f o p q)
shape_three K f g l m c h None p q = refl
shape_three K f g l m c h (Some a) None q = refl
shape_three K f g l m c h (Some a) (Some b) None = refl
shape_three K f g l m c h (Some a) (Some b) (Some d) = ap Some (h a b d)

pub shape_four : {A B C D : Type 0} (K : Resolved → Bool) (f : A → B → C → D → Resolved) (g : A → Bool) (l : B → Bool) (m : C → Bool) (n : D → Bool) (c : Bool) → ((a : A) (b : B) (d : C) (e : D) → ((g a && (l b && (m d && n e))) && c) ≡ K (f a b d e)) → (o : Option A) (p : Option B) (q : Option C) (r : Option D)
    → also (both (option_map g o) (both (option_map l p) (both (option_map m q) (option_map n r)))) c ≡ option_map K (with_four f o p q r)
shape_four K f g l m n c h None p q r = refl
shape_four K f g l m n c h (Some a) None q r = refl
shape_four K f g l m n c h (Some a) (Some b) None r = refl
shape_four K f g l m n c h (Some a) (Some b) (Some d) None = refl
shape_four K f g l m n c h (Some a) (Some b) (Some d) (Some e) = ap Some (h a b d e)

-- The tests of one, two and three theses, of lists of theses, and with a boundary.
pub list_right : (x b : Bool) → ((true && x) && b) ≡ ((x && true) && b)
list_right true b = refl
list_right false b = refl

pub with_right : (n x b : Bool) → ((true && (n && x)) && b) ≡ ((x && (n && true)) && b)
with_right true true b = refl
with_right true false b = refl
with_right false true b = refl
with_right false false b = refl

theses_both : (ps es : List Assertion) → all_theses (ps ++ es) ≡ (all_theses ps && all_theses es)
theses_both [] es = refl
theses_both (p ∷ ps) es = ap (λ b. is_thesis p.statement && b) (theses_both ps es) ∙ go (is_thesis p.statement) (all_theses ps) (all_theses es)
  where
    go : (x y z : Bool) → (x && (y && z)) ≡ ((x && y) && z)
    go true y z = refl
    go false y z = refl

pub twice_right : (ps es : List Assertion) (b : Bool) → ((true && (all_theses ps && all_theses es)) && b) ≡ ((all_theses (ps ++ es) && true) && b)
twice_right ps es b = list_right (all_theses ps && all_theses es) b ∙ ap (λ x. (x && true) && b) (sym (theses_both ps es))

last_right : (z : Bool) → z ≡ (z && true)
last_right true = refl
last_right false = refl

pub moved_right : (ps es : List Assertion) (q : Assertion) (b : Bool) → ((true && (all_theses ps && (all_theses es && is_thesis q.statement))) && b) ≡ ((all_theses (ps ++ (es ++ (q ∷ []))) && true) && b)
moved_right ps es q b =
    list_right (all_theses ps && (all_theses es && is_thesis q.statement)) b
    ∙ ap (λ x. ((all_theses ps && x) && true) && b) (ap (λ z. all_theses es && z) (last_right (is_thesis q.statement)) ∙ sym (theses_both es (q ∷ [])))
    ∙ ap (λ x. (x && true) && b) (sym (theses_both ps (es ++ (q ∷ []))))

-- What is there in a good list.
there_map : {A B : Type 0} (f : A → B) (o : Option A) → option_map (λ x. true) (option_map f o) ≡ option_map (λ x. true) o
there_map f None = refl
there_map f (Some x) = refl

variables_look : (f : ℕ × Name × ℕ → Option Assertion) (v : ℕ) (xs : List (ℕ × Name × ℕ)) → option_map (λ d. true) (look_up (map (λ (x : ℕ × Name × ℕ). annotated x (f x)) xs) v) ≡ cond (no_variable v xs) None (Some true)
variables_look f v [] = refl
variables_look f v (x ∷ xs) =
    ap (λ n. option_map (λ d. true) (cond (nat_eq v n) (Some (annotated x (f x)).1) (look_up (map (λ (x : ℕ × Name × ℕ). annotated x (f x)) xs) v))) (annotated_number x (f x))
    ∙ go (nat_eq v x.0) (variables_look f v xs)
  where
    go : (b : Bool) → option_map (λ d. true) (look_up (map (λ (x : ℕ × Name × ℕ). annotated x (f x)) xs) v) ≡ cond (no_variable v xs) None (Some true)
        → option_map (λ d. true) (cond b (Some (annotated x (f x)).1) (look_up (map (λ (x : ℕ × Name × ℕ). annotated x (f x)) xs) v)) ≡ cond (not b && no_variable v xs) None (Some true)
    go true h = refl
    go false h = h

pub variable_is : (items : List Item) (v : ℕ) → Good items → cond (no_variable v (variables_in items)) None (Some true) ≡ variable_there (declared_by items) v
variable_is items v g =
    sym (there_map (λ d. (v, d)) (look_up (declared_by items).variables v)
    ∙ ap (λ G. option_map (λ d. true) (look_up G v)) (store_is items g).variables
    ∙ variables_look (λ x. nth (entries_in items) x.2) v (variables_in items))

pub metavariable_is : (items : List Item) (m : ℕ) (o : Option ℕ) → Good items → o ≡ option_map (λ (d : Name × ℕ). d.1) (nth (metavariables_in items) m) → option_map (λ p. true) o ≡ metavariable_there (declared_by items) m
metavariable_is items m o g e =
    ap (option_map (λ p. true)) e ∙ there_map (λ (d : Name × ℕ). d.1) (nth (metavariables_in items) m)
    ∙ sym (there_map (λ d. (m, d)) (nth (declared_by items).metavariables m)
    ∙ ap (λ ds. option_map (λ d. true) (nth ds m)) (store_is items g).metavariables
    ∙ ap (option_map (λ d. true)) (nth_map _ (metavariables_in items) m)
    ∙ there_map _ (nth (metavariables_in items) m))

rule_some : (rs : List Rule) (r : ℕ) → r < length rs → Some true ≡ option_map (λ R. true) (rule_at rs r)
rule_some [] r h = absurd (omega (arith, h))
rule_some (R ∷ rs) zero h = refl
rule_some (R ∷ rs) (suc r) h = rule_some rs r (omega (arith, h))

rule_none : (rs : List Rule) (r : ℕ) → length rs ≤ r → None ≡ option_map (λ R. true) (rule_at rs r)
rule_none [] r h = refl
rule_none (R ∷ rs) zero h = absurd (omega (arith, h))
rule_none (R ∷ rs) (suc r) h = rule_none rs r (omega (arith, h))

rule_within : (rs : List Rule) (r : ℕ) → cond (nat_lt r (length rs)) (Some true) None ≡ option_map (λ R. true) (rule_at rs r)
rule_within rs r = go (nat_lt r (length rs)) refl
  where
    go : (b : Bool) → nat_lt r (length rs) ≡ b → cond b (Some true) None ≡ option_map (λ R. true) (rule_at rs r)
    go true e = rule_some rs r (ltb-true r (length rs) e)
    go false e = rule_none rs r (ltb-false r (length rs) e)

pub rule_is : (items : List Item) (r : ℕ) (b : Bool) → Good items → b ≡ nat_lt r (length (rules_in items)) → cond b (Some true) None ≡ rule_there (declared_by items) r
rule_is items r b g e =
    ap (λ b. cond b (Some true) None) (e ∙ ap (nat_lt r) (sym (rules_many items g)))
    ∙ rule_within (declared_by items).rules r ∙ sym (there_map (λ R. (r, R)) (rule_at (declared_by items).rules r))
