-- Valid assertions: derivable, with a set that is closed.
use Rattle.std.proofs.Common.{◌≡◌, ◌≢◌, ℕ, zero, ◌<◌, Option, Some, None, List, [], ◌∷◌, ◌⊎◌, inl, inr, refl, sym, ap, ◌∙◌, subst}
use Rattle.ft_common.proofs.Options.{none_some}
use Rattle.ft_common.proofs.Choices.{if_same, if_other}
use Rattle.ft_theory.specs.Expressions.{Expression, MentionsOnly}
use Rattle.ft_theory.specs.Statements.{is_type, Statement, plain, StatementMentionsOnly, IsObject, IsEquation}
use Rattle.ft_theory.specs.Rules.{look_up, Rule, rule_at}
use Rattle.ft_theory.specs.Steps.{sequent, sequents, IsVariableFree, Step, Trees, none, more, Prim}
use Rattle.ft_theory.specs.Derivability.{FinitaryUpTo}
use Rattle.ft_laws.proofs.Opens.{by_test}
use Rattle.ft_laws.proofs.Rules.{found, past}
use Rattle.ft_laws.proofs.Commute.{ScopedTheory}
use Rattle.ft_laws.proofs.Traverse.{Grows}
use Rattle.ft_laws.proofs.Substitute.{Extends, weaken}
use Rattle.ft_laws.proofs.Scope.{scope, Fine, InVariables, InMetavariables}
use Rattle.ft_laws.proofs.Statements.{AllOfStatement_mono}
use Rattle.ft_laws.proofs.Acts.{MentionsOnly_mono}
use Rattle.ft_laws.proofs.Finitary.{more_rules, Sound, scoped}
use Rattle.ft_laws.proofs.Admissible.{finitary_sound}
use Rattle.ft_items.specs.Sets.{Atom, met, var, insert, union, unions, Has, Within, Ascending}
use Rattle.ft_items.specs.Store.{Assertion, Annotation, Declared, Store, nth, with_boundary, boundaries_in, with_annotation, annotations_in, Derivable, Declarations}
use Rattle.ft_items.specs.Rows.{statements, sets}
use Rattle.ft_items.proofs.SetLemmas.{has_insert, insert_old, has_union, union_left, union_right, ascending_insert, ascending_union}

-- what is found in the maps of a set
abbrev pub MetIn : Declarations → List Atom → ℕ → Statement → Type 0
MetIn W S m b = (d : Declared) × Has (met m) S × (nth W.metavariables m ≡ Some d) × (d.boundary ≡ b)

abbrev pub VarIn : Declarations → List Atom → ℕ → Expression → Type 0
VarIn W S v A = (d : Annotation) × Has (var v) S × (look_up W.variables v ≡ Some d) × (d.annotation ≡ A)

pub look_mets : (W : Declarations) (S : List Atom) (m : ℕ) (b : Statement) → look_up (boundaries_in W S) m ≡ Some b → MetIn W S m b
look_mets W [] m b q = none_some q
look_mets W (met n ∷ S) m b q = go (nth W.metavariables n) refl (look_mets W S m b) q
  where
    later : MetIn W S m b → MetIn W (met n ∷ S) m b
    later h = (h.0, inr h.1, h.2, h.3)

    go : (o : Option Declared) → nth W.metavariables n ≡ o → (look_up (boundaries_in W S) m ≡ Some b → MetIn W S m b) → look_up (with_boundary n o (boundaries_in W S)) m ≡ Some b → MetIn W (met n ∷ S) m b
    go None e ih q = later (ih q)
    go (Some d) e ih q = by_test (MetIn W (met n ∷ S) m b) m n
        (λ p. (d, inl (ap met p), subst (λ z. nth W.metavariables z ≡ Some d) (sym p) e, found m (n, d.boundary) (boundaries_in W S) b p q))
        (λ p. later (ih (past m (n, d.boundary) (boundaries_in W S) b p q)))
look_mets W (var n ∷ S) m b q = let h : MetIn W S m b = look_mets W S m b q in (h.0, inr h.1, h.2, h.3)

pub mets_look : (W : Declarations) (S : List Atom) (m : ℕ) (d : Declared) → Has (met m) S → nth W.metavariables m ≡ Some d → look_up (boundaries_in W S) m ≡ Some d.boundary
mets_look W [] m d h q = absurd h
mets_look W (met n ∷ S) m d h q = go (nth W.metavariables n) refl (mets_look W S m d) h
  where
    split : {P : Type 0} → m ≢ n → Has (met m) (met n ∷ S) → (Has (met m) S → P) → P
    split ne (inl e) k = absurd (ne (inner e))
      where
        inner : met m ≡ met n → m ≡ n
        inner e = cc
    split ne (inr h) k = k h

    both_some : (c : Declared) → Some c ≡ Some d → c ≡ d
    both_some c e = cc

    go : (o : Option Declared) → nth W.metavariables n ≡ o → (Has (met m) S → nth W.metavariables m ≡ Some d → look_up (boundaries_in W S) m ≡ Some d.boundary) → Has (met m) (met n ∷ S) → look_up (with_boundary n o (boundaries_in W S)) m ≡ Some d.boundary
    go None e ih h = by_test (look_up (boundaries_in W S) m ≡ Some d.boundary) m n
        (λ p. none_some (sym e ∙ ap (nth W.metavariables) (sym p) ∙ q))
        (λ p. split p h (λ k. ih k q))
    go (Some c) e ih h = by_test (look_up (with_boundary n (Some c) (boundaries_in W S)) m ≡ Some d.boundary) m n
        (λ p. if_same m n (Some c.boundary) (look_up (boundaries_in W S) m) p ∙ ap (λ (x : Declared). Some x.boundary) (both_some c (sym e ∙ ap (nth W.metavariables) (sym p) ∙ q)))
        (λ p. if_other m n (Some c.boundary) (look_up (boundaries_in W S) m) p ∙ split p h (λ k. ih k q))
mets_look W (var n ∷ S) m d (inl e) q = absurd (clash e)
  where
    clash : met m ≡ var n → ⊥
    clash e = cc
mets_look W (var n ∷ S) m d (inr h) q = mets_look W S m d h q

pub look_vars : (W : Declarations) (S : List Atom) (v : ℕ) (A : Expression) → look_up (annotations_in W S) v ≡ Some A → VarIn W S v A
look_vars W [] v A q = none_some q
look_vars W (var n ∷ S) v A q = go (look_up W.variables n) refl (look_vars W S v A) q
  where
    later : VarIn W S v A → VarIn W (var n ∷ S) v A
    later h = (h.0, inr h.1, h.2, h.3)

    go : (o : Option Annotation) → look_up W.variables n ≡ o → (look_up (annotations_in W S) v ≡ Some A → VarIn W S v A) → look_up (with_annotation n o (annotations_in W S)) v ≡ Some A → VarIn W (var n ∷ S) v A
    go None e ih q = later (ih q)
    go (Some d) e ih q = by_test (VarIn W (var n ∷ S) v A) v n
        (λ p. (d, inl (ap var p), subst (λ z. look_up W.variables z ≡ Some d) (sym p) e, found v (n, d.annotation) (annotations_in W S) A p q))
        (λ p. later (ih (past v (n, d.annotation) (annotations_in W S) A p q)))
look_vars W (met n ∷ S) v A q = let h : VarIn W S v A = look_vars W S v A q in (h.0, inr h.1, h.2, h.3)

pub vars_look : (W : Declarations) (S : List Atom) (v : ℕ) (d : Annotation) → Has (var v) S → look_up W.variables v ≡ Some d → look_up (annotations_in W S) v ≡ Some d.annotation
vars_look W [] v d h q = absurd h
vars_look W (var n ∷ S) v d h q = go (look_up W.variables n) refl (vars_look W S v d) h
  where
    split : {P : Type 0} → v ≢ n → Has (var v) (var n ∷ S) → (Has (var v) S → P) → P
    split ne (inl e) k = absurd (ne (inner e))
      where
        inner : var v ≡ var n → v ≡ n
        inner e = cc
    split ne (inr h) k = k h

    both_some : (c : Annotation) → Some c ≡ Some d → c ≡ d
    both_some c e = cc

    go : (o : Option Annotation) → look_up W.variables n ≡ o → (Has (var v) S → look_up W.variables v ≡ Some d → look_up (annotations_in W S) v ≡ Some d.annotation) → Has (var v) (var n ∷ S) → look_up (with_annotation n o (annotations_in W S)) v ≡ Some d.annotation
    go None e ih h = by_test (look_up (annotations_in W S) v ≡ Some d.annotation) v n
        (λ p. none_some (sym e ∙ ap (look_up W.variables) (sym p) ∙ q))
        (λ p. split p h (λ k. ih k q))
    go (Some c) e ih h = by_test (look_up (with_annotation n (Some c) (annotations_in W S)) v ≡ Some d.annotation) v n
        (λ p. if_same v n (Some c.annotation) (look_up (annotations_in W S) v) p ∙ ap (λ (x : Annotation). Some x.annotation) (both_some c (sym e ∙ ap (look_up W.variables) (sym p) ∙ q)))
        (λ p. if_other v n (Some c.annotation) (look_up (annotations_in W S) v) p ∙ split p h (λ k. ih k q))
vars_look W (met n ∷ S) v d (inl e) q = absurd (clash e)
  where
    clash : var v ≡ met n → ⊥
    clash e = cc
vars_look W (met n ∷ S) v d (inr h) q = vars_look W S v d h q

-- a larger set has larger maps
pub extends : (W : Declarations) (S R : List Atom) → Within S R → Extends (boundaries_in W S) (boundaries_in W R)
extends W S R w m b q =
    let h : MetIn W S m b = look_mets W S m b q in
    mets_look W R m h.0 (w (met m) h.1) h.2 ∙ ap Some h.3

pub grows : (W : Declarations) (S R : List Atom) → Within S R → Grows (annotations_in W S) (annotations_in W R)
grows W S R w v A q =
    let h : VarIn W S v A = look_vars W S v A q in
    vars_look W R v h.0 (w (var v) h.1) h.2 ∙ ap Some h.3

-- later declarations have at least what the earlier ones have
pub record Later (W X : Declarations) : Type 0 where
  pub rules : (r : ℕ) (R : Rule) → rule_at W.rules r ≡ Some R → rule_at X.rules r ≡ Some R
  pub metavariables : (m : ℕ) (d : Declared) → nth W.metavariables m ≡ Some d → nth X.metavariables m ≡ Some d
  pub variables : (v : ℕ) (d : Annotation) → look_up W.variables v ≡ Some d → look_up X.variables v ≡ Some d

-- the set of an atom's declaration
abbrev pub Declares : Declarations → Atom → List Atom → Type 0
Declares W (met m) R = (d : Declared) × (nth W.metavariables m ≡ Some d) × (d.set ≡ R)
Declares W (var v) R = (d : Annotation) × (look_up W.variables v ≡ Some d) × (d.set ≡ R)

-- with an atom the set has the set of its declaration
abbrev pub Closed : Declarations → List Atom → Type 0
Closed W S = (a : Atom) → Has a S → (R : List Atom) × Declares W a R × Within R S

pub record Proper (W : Declarations) (S : List Atom) : Type 0 where
  pub ascending : Ascending S
  pub closed : Closed W S

pub record Valid (W : Declarations) (x : Statement) (S : List Atom) : Type 0 where
  pub proper : Proper W S
  pub derivable : Derivable W x S

pub proper_empty : (W : Declarations) → Proper W []
proper_empty W = record { ascending = tt; closed = λ a h. absurd h }

pub proper_union : (W : Declarations) (S R : List Atom) → Proper W S → Proper W R → Proper W (union S R)
proper_union W S R p q = record { ascending = ascending_union S R q.ascending; closed = λ a h. go a (has_union a S R h) }
  where
    go : (a : Atom) → Has a S ⊎ Has a R → (Q : List Atom) × Declares W a Q × Within Q (union S R)
    go a (inl h) = let r : (Q : List Atom) × Declares W a Q × Within Q S = p.closed a h in (r.0, r.1, λ c k. union_left c S R (r.2 c k))
    go a (inr h) = let r : (Q : List Atom) × Declares W a Q × Within Q R = q.closed a h in (r.0, r.1, λ c k. union_right c S R (r.2 c k))

pub proper_insert : (W : Declarations) (a : Atom) (Q S : List Atom) → Declares W a Q → Within Q S → Proper W S → Proper W (insert a S)
proper_insert W a Q S d w p = record { ascending = ascending_insert a S p.ascending; closed = λ c h. go c (has_insert c a S h) }
  where
    go : (c : Atom) → (c ≡ a) ⊎ Has c S → (R : List Atom) × Declares W c R × Within R (insert a S)
    go c (inl e) = (Q, subst (λ x. Declares W x Q) (sym e) d, λ x k. insert_old x a S (w x k))
    go c (inr h) = let r : (R : List Atom) × Declares W c R × Within R S = p.closed c h in (r.0, r.1, λ x k. insert_old x a S (r.2 x k))

-- all of a list
abbrev pub AllValid : Declarations → List Assertion → Type 0
AllValid W [] = Unit {0}
AllValid W (p ∷ ps) = Valid W p.statement p.set × AllValid W ps

pub proper_unions : (W : Declarations) (ps : List Assertion) → AllValid W ps → Proper W (unions (sets ps))
proper_unions W [] h = proper_empty W
proper_unions W (p ∷ ps) h = proper_union W p.set (unions (sets ps)) h.0.proper (proper_unions W ps h.1)

-- over a larger set
pub up : (W : Declarations) → ScopedTheory W.rules → (x : Statement) (S R : List Atom) → Within S R → Derivable W x S → Derivable W x R
up W sc x S R w p = weaken W.rules sc (boundaries_in W S) (boundaries_in W R) (annotations_in W S) (annotations_in W R) x (extends W S R w) (grows W S R w) p

pub up_all : (W : Declarations) → ScopedTheory W.rules → (ps : List Assertion) (R : List Atom) → Within (unions (sets ps)) R → AllValid W ps → Trees (Step W.rules) (sequents (boundaries_in W R) (annotations_in W R) (statements ps))
up_all W sc [] R w h = none
up_all W sc (p ∷ ps) R w h = more
    (up W sc p.statement p.set R (λ a k. w a (union_left a p.set (unions (sets ps)) k)) h.0.derivable)
    (up_all W sc ps R (λ a k. w a (union_right a p.set (unions (sets ps)) k)) h.1)

-- over later declarations
pub later_closed : (W X : Declarations) (S : List Atom) → Later W X → Closed W S → Closed X S
later_closed W X S l c a h = let r : (R : List Atom) × Declares W a R × Within R S = c a h in (r.0, go a r.0 r.1, r.2)
  where
    go : (a : Atom) (R : List Atom) → Declares W a R → Declares X a R
    go (met m) R d = (d.0, l.metavariables m d.0 d.1, d.2)
    go (var v) R d = (d.0, l.variables v d.0 d.1, d.2)

pub later_mets : (W X : Declarations) (S : List Atom) → Later W X → Extends (boundaries_in W S) (boundaries_in X S)
later_mets W X S l m b q =
    let h : MetIn W S m b = look_mets W S m b q in
    mets_look X S m h.0 h.1 (l.metavariables m h.0 h.2) ∙ ap Some h.3

pub later_vars : (W X : Declarations) (S : List Atom) → Later W X → Grows (annotations_in W S) (annotations_in X S)
later_vars W X S l v A q =
    let h : VarIn W S v A = look_vars W S v A q in
    vars_look X S v h.0 h.1 (l.variables v h.0 h.2) ∙ ap Some h.3

pub later_valid : (W X : Declarations) (x : Statement) (S : List Atom) → ScopedTheory X.rules → Later W X → Valid W x S → Valid X x S
later_valid W X x S sc l v = record {
  proper = record { ascending = v.proper.ascending; closed = later_closed W X S l v.proper.closed };
  derivable = weaken X.rules sc (boundaries_in W S) (boundaries_in X S) (annotations_in W S) (annotations_in X S) x (later_mets W X S l) (later_vars W X S l)
      (more_rules W.rules X.rules l.rules (sequent (boundaries_in W S) (annotations_in W S) x) v.derivable);
}

-- what the declarations of a good list have
pub record WellFormed (W : Declarations) : Type 0 where
  pub finitary : (k : ℕ) → FinitaryUpTo k W.rules
  pub metavariables : (m : ℕ) (d : Declared) → nth W.metavariables m ≡ Some d
      → Valid W d.boundary d.set × (IsObject d.boundary ⊎ IsEquation d.boundary) × ((v : ℕ) → Has (var v) d.set → ⊥) × ((n : ℕ) → Has (met n) d.set → n < m)
  pub variables : (v : ℕ) (d : Annotation) → look_up W.variables v ≡ Some d → Valid W (plain (is_type d.annotation)) d.set × ((w : ℕ) → Has (var w) d.set → w < v)

-- and its store: each entry is valid too
pub record WellFormedStore (W : Store) : Type 0 where
  pub declarations : WellFormed W.declarations
  pub entries : (p : ℕ) (a : Assertion) → nth W.entries p ≡ Some a → Valid W.declarations a.statement a.set

pub sound_rules : (W : Declarations) → WellFormed W → Sound W.rules
sound_rules W F = finitary_sound zero W.rules (F.finitary zero)

pub scoped_rules : (W : Declarations) → WellFormed W → ScopedTheory W.rules
scoped_rules W F = scoped W.rules (sound_rules W F)

-- a statement mentions only atoms of its set
pub mentions : (W : Declarations) (x : Statement) (S : List Atom) → Derivable W x S → StatementMentionsOnly (λ v. Has (var v) S) (λ m k. Has (met m) S) x
mentions W x S p = AllOfStatement_mono x (Fine (boundaries_in W S) (annotations_in W S)) (λ k. MentionsOnly (λ v. Has (var v) S) (λ m k. Has (met m) S)) zero
    (λ k e f. MentionsOnly_mono e (InVariables (annotations_in W S)) (λ v. Has (var v) S) (InMetavariables (boundaries_in W S)) (λ m k. Has (met m) S)
    (λ v h. (look_vars W S v h.0 h.1).1) (λ m k h. (look_mets W S m h.0 h.1).1) f.1)
    (scope W.rules (sequent (boundaries_in W S) (annotations_in W S) x) p)

pub global : (W : Declarations) (x : Statement) (S : List Atom) → Derivable W x S → ((v : ℕ) → Has (var v) S → ⊥) → IsVariableFree x
global W x S p n = AllOfStatement_mono x (λ k. MentionsOnly (λ v. Has (var v) S) (λ m k. Has (met m) S)) (λ k. MentionsOnly (λ v. ⊥) (λ m k. Unit {0})) zero
    (λ k e f. MentionsOnly_mono e (λ v. Has (var v) S) (λ v. ⊥) (λ m k. Has (met m) S) (λ m k. Unit {0}) n (λ m k h. tt) f)
    (mentions W x S p)
