-- The names in the store of a good list are those that its items have.
use Rattle.std.proofs.Common.{◌≡◌, ◌∙◌, sym, ap, refl, ℕ, zero, suc, ◌<◌, ◌≤◌, nat_eq, nat_lt, Bool, true, false, cond, Option, Some, None, option_map, List, [], ◌∷◌, ◌++◌, length, map, arith, encode_utf8_all, append-nil, Result, Ok, Err, OnOk}
use Rattle.std.proofs.lemmas.Bool.{eq-eqb, ne_eqb, eqb-true, eqb-false, ltb-true, ltb-false}
use Rattle.ft_common.proofs.Options.{none_some, some_none}
use Rattle.ft_common.proofs.Choices.{by_test}
use Rattle.ft_theory.specs.Rules.{look_up}
use Rattle.ft_items.specs.Item.{Name, Item}
use Rattle.ft_items.specs.Store.{Assertion, Annotation, Declared, nth, annotated, declared, entries_in, variables_in, metavariables_in, rules_in, declared_by}
use Rattle.ft_items.specs.Good.{Good}
use Rattle.ft_items.proofs.Lists.{store_is, annotated_number, nth_past}
use Rattle.ft_kernel.specs.State.{variable_numbered, if_below}
use Rattle.ft_meaning.specs.Texts.{name_if_any}

nth_map : {A B : Type 0} (f : A → B) (xs : List A) (n : ℕ) → nth (map f xs) n ≡ option_map f (nth xs n)
nth_map f [] n = refl
nth_map f (x ∷ xs) zero = refl
nth_map f (x ∷ xs) (suc n) = nth_map f xs n

-- a number that is one of so many
pub below_is : (n bound r : ℕ) → if_below n bound ≡ Some r → r ≡ n
below_is n bound r e = go (nat_lt n bound) e
  where
    go : (b : Bool) → cond b (Some n) None ≡ Some r → r ≡ n
    go true e = cc
    go false e = none_some e

pub below_within : (n bound r : ℕ) → if_below n bound ≡ Some r → r < bound
below_within n bound r e = by_test (nat_lt n bound) (λ t. let l : n < bound = ltb-true n bound t in let s : r ≡ n = below_is n bound r e in omega (arith, l, s)) (λ f. none_some (sym (ap (λ b. cond b (Some n) None) f) ∙ e))

pub past_bound : (n bound : ℕ) → if_below n bound ≡ None → bound ≤ n
past_bound n bound e = by_test (nat_lt n bound) (λ t. some_none (sym (ap (λ b. cond b (Some n) None) t) ∙ e)) (λ f. ltb-false n bound f)

-- Rules.

abbrev name_of : Name × List ℕ × ℕ → Name
name_of x = x.0

rule_name : (items : List Item) (s : ℕ) → Good items → nth (declared_by items).names s ≡ option_map name_of (nth (rules_in items) s)
rule_name items s g = ap (λ ns. nth ns s) (store_is items g).names ∙ nth_map name_of (rules_in items) s

pub rule_named : (items : List Item) (s : ℕ) (n : Name) (ms : List ℕ) (p : ℕ) → Good items → nth (rules_in items) s ≡ Some (n, ms, p) → name_if_any (nth (declared_by items).names s) ≡ encode_utf8_all n
rule_named items s n ms p g e = ap name_if_any (rule_name items s g ∙ ap (option_map name_of) e)

pub rule_unnamed : (items : List Item) (s : ℕ) → Good items → length (rules_in items) ≤ s → name_if_any (nth (declared_by items).names s) ≡ []
rule_unnamed items s g l = ap name_if_any (rule_name items s g ∙ ap (option_map name_of) (nth_past (rules_in items) s l))

-- Metavariables.

abbrev metavariable_by : List Assertion → Name × ℕ → Declared
metavariable_by es x = declared x (nth es x.1)

declared_name : (x : Name × ℕ) (o : Option Assertion) → (declared x o).name ≡ x.0
declared_name x None = refl
declared_name x (Some a) = refl

pub metavariable_at : (items : List Item) (m : ℕ) → Good items → nth (declared_by items).metavariables m ≡ option_map (metavariable_by (entries_in items)) (nth (metavariables_in items) m)
metavariable_at items m g = ap (λ ds. nth ds m) (store_is items g).metavariables ∙ nth_map (metavariable_by (entries_in items)) (metavariables_in items) m

pub metavariable_none : (items : List Item) (m : ℕ) → Good items → length (metavariables_in items) ≤ m → nth (declared_by items).metavariables m ≡ None
metavariable_none items m g l = metavariable_at items m g ∙ ap (option_map (metavariable_by (entries_in items))) (nth_past (metavariables_in items) m l)

pub metavariable_named : (items : List Item) (m : ℕ) (n : Name) (p : ℕ) → Good items → nth (metavariables_in items) m ≡ Some (n, p)
    → name_if_any (option_map (λ d. d.name) (nth (declared_by items).metavariables m)) ≡ encode_utf8_all n
metavariable_named items m n p g e =
    ap (λ o. name_if_any (option_map (λ d. d.name) o)) (metavariable_at items m g ∙ ap (option_map (metavariable_by (entries_in items))) e) ∙ ap encode_utf8_all (declared_name (n, p) (nth (entries_in items) p))

pub metavariable_unnamed : (items : List Item) (m : ℕ) → Good items → length (metavariables_in items) ≤ m → name_if_any (option_map (λ d. d.name) (nth (declared_by items).metavariables m)) ≡ []
metavariable_unnamed items m g l = ap (λ o. name_if_any (option_map (λ d. d.name) o)) (metavariable_none items m g l)

-- Variables.

-- the annotation of a variable, by its name and its entry
abbrev annotation_by : List Assertion → ℕ → Name × ℕ → Annotation
annotation_by es v y = (annotated (v, y.0, y.1) (nth es y.1)).1

annotation_name : (x : ℕ × Name × ℕ) (o : Option Assertion) → (annotated x o).1.name ≡ x.1
annotation_name x None = refl
annotation_name x (Some a) = refl

annotation_same : (w v : ℕ) (n : Name) (p : ℕ) (o : Option Assertion) → (annotated (w, n, p) o).1 ≡ (annotated (v, n, p) o).1
annotation_same w v n p None = refl
annotation_same w v n p (Some a) = refl

same_turned : (v w : ℕ) → nat_eq v w ≡ nat_eq w v
same_turned v w = by_test (nat_eq v w) (λ e. e ∙ sym (eq-eqb w v (sym (eqb-true v w e)))) (λ e. e ∙ sym (ne_eqb w v (λ f. eqb-false v w e (sym f))))

picked : (f : Name × ℕ → Annotation) (b : Bool) (x : Annotation) (rest : Option Annotation) (y : Name × ℕ) (o : Option (Name × ℕ)) → x ≡ f y → rest ≡ option_map f o → cond b (Some x) rest ≡ option_map f (cond b (Some y) o)
picked f true x rest y o e r = ap Some e
picked f false x rest y o e r = r

look_annotated : (es : List Assertion) (vs : List (ℕ × Name × ℕ)) (v : ℕ) → look_up (map (λ (x : ℕ × Name × ℕ). annotated x (nth es x.2)) vs) v ≡ option_map (annotation_by es v) (variable_numbered vs v)
look_annotated es [] v = refl
look_annotated es ((w, n, p) ∷ vs) v =
    let x : Annotation = (annotated (w, n, p) (nth es p)).1 in
    let rest : Option Annotation = look_up (map (λ (x : ℕ × Name × ℕ). annotated x (nth es x.2)) vs) v in
    ap (λ b. cond b (Some x) rest) (ap (nat_eq v) (annotated_number (w, n, p) (nth es p)) ∙ same_turned v w)
    ∙ picked (annotation_by es v) (nat_eq w v) x rest (n, p) (variable_numbered vs v) (annotation_same w v n p (nth es p)) (look_annotated es vs v)

pub variable_at : (items : List Item) (v : ℕ) → Good items → look_up (declared_by items).variables v ≡ option_map (annotation_by (entries_in items) v) (variable_numbered (variables_in items) v)
variable_at items v g = ap (λ G. look_up G v) (store_is items g).variables ∙ look_annotated (entries_in items) (variables_in items) v

pub variable_none : (items : List Item) (v : ℕ) → Good items → variable_numbered (variables_in items) v ≡ None → look_up (declared_by items).variables v ≡ None
variable_none items v g e = variable_at items v g ∙ ap (option_map (annotation_by (entries_in items) v)) e

pub variable_named : (items : List Item) (v : ℕ) (n : Name) (p : ℕ) → Good items → variable_numbered (variables_in items) v ≡ Some (n, p)
    → name_if_any (option_map (λ d. d.name) (look_up (declared_by items).variables v)) ≡ encode_utf8_all n
variable_named items v n p g e =
    ap (λ o. name_if_any (option_map (λ d. d.name) o)) (variable_at items v g ∙ ap (option_map (annotation_by (entries_in items) v)) e) ∙ ap encode_utf8_all (annotation_name (v, n, p) (nth (entries_in items) p))

pub variable_unnamed : (items : List Item) (v : ℕ) → Good items → variable_numbered (variables_in items) v ≡ None → name_if_any (option_map (λ d. d.name) (look_up (declared_by items).variables v)) ≡ []
variable_unnamed items v g e = ap (λ o. name_if_any (option_map (λ d. d.name) o)) (variable_none items v g e)

-- a variable that is found by its number
pub found_is : {A : Type 0} (o : Option A) (v r : ℕ) → option_map (λ _. v) o ≡ Some r → r ≡ v
found_is None v r e = none_some e
found_is (Some x) v r e = cc

pub found_there : {A : Type 0} (o : Option A) (v r : ℕ) → option_map (λ _. v) o ≡ Some r → (x : A) × (o ≡ Some x)
found_there None v r e = none_some e
found_there (Some x) v r e = (x, refl)

pub not_found : {A : Type 0} (o : Option A) (v : ℕ) → option_map (λ _. v) o ≡ None → o ≡ None
not_found None v e = refl
not_found (Some x) v e = some_none e

pub found_numbered : (vs : List (ℕ × Name × ℕ)) (v r : ℕ) → option_map (λ _. v) (variable_numbered vs v) ≡ Some r → (x : Name × ℕ) × (variable_numbered vs r ≡ Some x)
found_numbered vs v r e = let h = found_there (variable_numbered vs v) v r e in (h.0, ap (variable_numbered vs) (found_is (variable_numbered vs v) v r e) ∙ h.1)

-- a name that is written
pub name_written : {A E : Type 0} (x : Result A E) (out new chars name text : List ℕ) → chars ≡ name → text ≡ encode_utf8_all name → OnOk x (new ≡ out ++ encode_utf8_all chars) → OnOk x (new ≡ out ++ text)
name_written (Ok a) out new chars name text c t h = h ∙ ap (λ z. out ++ z) (ap encode_utf8_all c ∙ sym t)
name_written (Err e) out new chars name text c t h = tt

pub nothing_written : (out text : List ℕ) → text ≡ [] → out ≡ out ++ text
nothing_written out text t = sym (append-nil out) ∙ ap (λ z. out ++ z) (sym t)
