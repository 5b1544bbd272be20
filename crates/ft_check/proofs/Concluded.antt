-- Whether what is stated is what a step concludes, where it concludes something.
use Rattle.std.proofs.Common.{◌≡◌, ℕ, Bool, false, not, Option, Some, None, List, refl, sym, ap, ap₂, ◌∙◌, subst}
use Rattle.std.proofs.lemmas.Option.{same_Some}
use Rattle.std.specs.Prelude.{option_map}
use Rattle.ft_common.proofs.Options.{none_some}
use Rattle.ft_theory.specs.Expressions.{Expression, free}
use Rattle.ft_theory.specs.Rules.{look_up}
use Rattle.ft_theory.specs.Statements.{Statement, abstracted, close_statement, has_type, plain}
use Rattle.ft_items.specs.Item.{Entry as AnyEntry}
use Rattle.ft_items.specs.Sets.{Atom, insert, same_set, union, var, without}
use Rattle.ft_items.specs.Store.{Annotation, Assertion, variable_named, Declarations}
use Rattle.ft_items.specs.Rows.{depends, term_equation_boundary, when}
use Rattle.ft_items.specs.Equal.{equal_statements}
use Rattle.ft_items.specs.Good.{Reject as Reason, Premise as premise, Conclusion as conclusion, Set as set, reason_of_result, unless}

pub is_none : (o : Option Statement) (S : List Atom) (e : AnyEntry) → o ≡ None → Some premise ≡ reason_of_result o S e
is_none o S e h = ap (λ o. reason_of_result o S e) (sym h)

pub is_some : (x y : Statement) (S R : List Atom) (e : AnyEntry) (b d : Bool) (r : Option Reason) → b ≡ equal_statements x y → y ≡ e.statement → d ≡ same_set S R → R ≡ e.set → r ≡ unless b conclusion (unless d set None) → r ≡ reason_of_result (Some x) S e
is_some x y S R e b d r k f l g q = q ∙ ap₂ (λ b d. unless b conclusion (unless d set None)) (k ∙ ap (equal_statements x) f) (l ∙ ap (same_set S) g)

-- The reason by what is concluded from one entry, from two or from three.
pub against_one : (f : Statement → Option Statement) (b a : Assertion) (o : Option Assertion) (x y : Statement) (S : List Atom) (e : AnyEntry) (r : Option Reason) → Some b ≡ o → o ≡ Some a → Some x ≡ f y → y ≡ b.statement → S ≡ b.set
    → r ≡ reason_of_result (Some x) S e → r ≡ reason_of_result (f a.statement) a.set e
against_one f b a o x y S e r h k l m n q =
    q ∙ ap₂ (λ z S. reason_of_result z S e) (l ∙ ap f m) n ∙ ap (λ (c : Assertion). reason_of_result (f c.statement) c.set e) (same_Some b a (h ∙ k))

pub against_two : (f : Statement → Statement → Option Statement) (b a d c : Assertion) (o p : Option Assertion) (x y z : Statement) (S : List Atom) (e : AnyEntry) (r : Option Reason) → Some b ≡ o → o ≡ Some a → Some d ≡ p → p ≡ Some c
    → Some x ≡ f y z → y ≡ b.statement → z ≡ d.statement → S ≡ union b.set d.set → r ≡ reason_of_result (Some x) S e → r ≡ reason_of_result (f a.statement c.statement) (union a.set c.set) e
against_two f b a d c o p x y z S e r h k i j l m v n q =
    q ∙ ap₂ (λ z S. reason_of_result z S e) (l ∙ ap₂ f m v) n
    ∙ ap₂ (λ (a c : Assertion). reason_of_result (f a.statement c.statement) (union a.set c.set) e) (same_Some b a (h ∙ k)) (same_Some d c (i ∙ j))

pub against_three : (b a d c g k : Assertion) (o p q : Option Assertion) (x y z w : Statement) (S : List Atom) (e : AnyEntry) (r : Option Reason) → Some b ≡ o → o ≡ Some a → Some d ≡ p → p ≡ Some c → Some g ≡ q → q ≡ Some k
    → Some x ≡ term_equation_boundary y z w → y ≡ b.statement → z ≡ d.statement → w ≡ g.statement → S ≡ union b.set (union d.set g.set) → r ≡ reason_of_result (Some x) S e
    → r ≡ reason_of_result (term_equation_boundary a.statement c.statement k.statement) (union a.set (union c.set k.set)) e
against_three b a d c g k o p q x y z w S e r h h' i i' j j' l m v u n t =
    t ∙ ap₂ (λ z S. reason_of_result z S e) (l ∙ ap₂ (λ y z. term_equation_boundary y z w) m v ∙ ap (term_equation_boundary b.statement d.statement) u) n
    ∙ ap₂ (λ (a c : Assertion). reason_of_result (term_equation_boundary a.statement c.statement g.statement) (union a.set (union c.set g.set)) e) (same_Some b a (h ∙ h')) (same_Some d c (i ∙ i'))
    ∙ ap (λ (k : Assertion). reason_of_result (term_equation_boundary a.statement c.statement k.statement) (union a.set (union c.set k.set)) e) (same_Some g k (j ∙ j'))

-- A variable, and abstraction of one.
pub variable_stands : (W : Declarations) (v : ℕ) (d : ℕ × Annotation) → variable_named W v ≡ Some d → (v ≡ d.0) × (look_up W.variables v ≡ Some d.1)
variable_stands W v d h = go (look_up W.variables v) refl h
  where
    go : (o : Option Annotation) → look_up W.variables v ≡ o → option_map (λ a. (v, a)) o ≡ Some d → (v ≡ d.0) × (look_up W.variables v ≡ Some d.1)
    go None q h = none_some h
    go (Some a) q h =
        let same : (v, a) ≡ d = same_Some (v, a) d h in
        (ap (λ (x : ℕ × Annotation). x.0) same, q ∙ ap (λ (x : ℕ × Annotation). Some x.1) same)

pub variable_reason : (v : ℕ) (d : ℕ × Annotation) (A : Expression) (S : List Atom) (e : AnyEntry) (r : Option Reason) → v ≡ d.0 → A ≡ d.1.annotation → S ≡ d.1.set → r ≡ reason_of_result (Some (plain (has_type (free v) A))) (insert (var v) S) e
    → r ≡ reason_of_result (Some (plain (has_type (free d.0) d.1.annotation))) (insert (var d.0) d.1.set) e
variable_reason v d A S e r h k l q =
    q ∙ ap (λ v. reason_of_result (Some (plain (has_type (free v) A))) (insert (var v) S) e) h
    ∙ ap₂ (λ A S. reason_of_result (Some (plain (has_type (free d.0) A))) (insert (var d.0) S) e) k l

pub abstracted_reason : (G : List (ℕ × Annotation)) (v : ℕ) (d : ℕ × Annotation) (b a : Assertion) (o : Option Assertion) (A : Expression) (S : List Atom) (n : Bool) (e : AnyEntry) (r : Option Reason) → Some b ≡ o → o ≡ Some a
    → v ≡ d.0 → A ≡ d.1.annotation → S ≡ d.1.set → n ≡ depends G v b.set → n ≡ false → r ≡ reason_of_result (Some (abstracted A (close_statement v b.statement))) (union S (without (var v) b.set)) e
    → r ≡ reason_of_result (when (not (depends G d.0 a.set)) (abstracted d.1.annotation (close_statement d.0 a.statement))) (union d.1.set (without (var d.0) a.set)) e
abstracted_reason G v d b a o A S n e r h h' k l m f g q =
    q ∙ ap (λ n. reason_of_result (when (not n) (abstracted A (close_statement v b.statement))) (union S (without (var v) b.set)) e) (sym g ∙ f)
    ∙ ap (λ v. reason_of_result (when (not (depends G v b.set)) (abstracted A (close_statement v b.statement))) (union S (without (var v) b.set)) e) k
    ∙ ap₂ (λ A S. reason_of_result (when (not (depends G d.0 b.set)) (abstracted A (close_statement d.0 b.statement))) (union S (without (var d.0) b.set)) e) l m
    ∙ ap (λ (b : Assertion). reason_of_result (when (not (depends G d.0 b.set)) (abstracted d.1.annotation (close_statement d.0 b.statement))) (union d.1.set (without (var d.0) b.set)) e) (same_Some b a (h ∙ h'))

-- what is concluded from two entries, by a test
pub two_entries : (P : Assertion → Assertion → Type 0) (b a d c : Assertion) (o p : Option Assertion) → Some b ≡ o → o ≡ Some a → Some d ≡ p → p ≡ Some c → P b d → P a c
two_entries P b a d c o p h k i j q = subst (P a) (same_Some d c (i ∙ j)) (subst (λ b. P b d) (same_Some b a (h ∙ k)) q)

pub tested_reason : (C : Option Statement) (y : Statement) (S : List Atom) (e : AnyEntry) (b : Bool) (o : Option Bool) (r : Option Reason) → o ≡ option_map (λ z. equal_statements z y) C → o ≡ Some b → ((x : Statement) → b ≡ equal_statements x y → r ≡ reason_of_result (Some x) S e) → r ≡ reason_of_result C S e
tested_reason None y S e b o r h k f = none_some (sym h ∙ k)
tested_reason (Some x) y S e b o r h k f = f x (same_Some b (equal_statements x y) (sym k ∙ h))
