-- Abstraction and substitution, part by part.
use Rattle.std.proofs.Common.{◌≡◌, ◌≢◌, ℕ, ◌<◌, nat_eq, Bool, true, false, ◌&&◌, Option, Some, None, List, [], ◌∷◌, refl, sym, ap, ◌∙◌, length, drop, get_or, arith}
use Rattle.std.specs.Prelude.{option_map}
use Rattle.std.proofs.lemmas.Option.{same_Some}
use Rattle.ft_theory.specs.Expressions.{Expression, bound, free, symbol, meta}
use Rattle.ft_theory.specs.Statements.{Claim, is_type, has_type, equal_types, equal_terms, type_goal, term_goal, type_equation_goal, term_equation_goal, Statement, plain, abstracted, close_statement, opened}
use Rattle.ft_common.proofs.Options.{none_some}
use Rattle.ft_items.specs.Equal.{equal_expressions, equal_statements}
use Rattle.ft_items.specs.Good.{is_plain_type}
use Rattle.ft_items.specs.Rows.{substitution, when}
use Rattle.ft_items.specs.Store.{type_in}
use Rattle.ft_syntax.specs.Arguments.{node_of}
use Rattle.ft_syntax.specs.declared.syntax.Node.TheVariants.{Free}
use Rattle.ft_syntax.specs.Table.{tree}
use Rattle.ft_judge.specs.Meaning.{under}
use Rattle.ft_steps.specs.Parts.{plain_in}
use Rattle.ft_steps.specs.declared.parts.Claim.{Claim as ClaimValue}
use Rattle.ft_steps.specs.declared.parts.Claim.TheVariants.{IsType, HasType, EqualTypes, EqualTerms, TypeGoal, TermGoal, TypeEquationGoal, TermEquationGoal}
use Rattle.ft_steps.specs.Moving.{moved_statement, plain_term, two_in}
use Rattle.ft_steps.specs.declared.moving.Move.TheVariants.{Open, Close}

-- the first domain, and the others
pub first_is : (ts : List Expression) (Bs : List ℕ) (B : ℕ) (z : Statement) → 0 < length Bs → B ≡ get_or Bs 0 B → under ts Bs z ≡ abstracted (tree ts B) (under ts (drop 1 Bs) z)
first_is ts [] B z l e = absurd (omega (arith, l))
first_is ts (C ∷ Bs) B z l e = ap (λ (C : ℕ). abstracted (tree ts C) (under ts Bs z)) (sym e)

pub no_first : (ts : List Expression) (Bs : List ℕ) (A : Expression) (x z : Statement) (c : Claim) → z ≡ plain c → length Bs ≡ 0 → false ≡ equal_statements (abstracted A x) (under ts Bs z)
no_first ts [] A x z c e h = ap (equal_statements (abstracted A x)) (sym e)
no_first ts (B ∷ Bs) A x z c e h = absurd (omega (arith, h))

pub other_first : (ts : List Expression) (Bs : List ℕ) (A : Expression) (B : ℕ) (b : Bool) (x z : Statement) → 0 < length Bs → B ≡ get_or Bs 0 B → b ≡ equal_expressions A (tree ts B) → b ≡ false
    → false ≡ equal_statements (abstracted A x) (under ts Bs z)
other_first ts Bs A B b x z l e f g = ap (λ b. b && equal_statements x (under ts (drop 1 Bs) z)) (sym g ∙ f) ∙ ap (equal_statements (abstracted A x)) (sym (first_is ts Bs B z l e))

pub first_closed : (ts : List Expression) (Bs : List ℕ) (A : Expression) (B v : ℕ) (b a : Bool) (x z : Statement) → 0 < length Bs → B ≡ get_or Bs 0 B → b ≡ equal_expressions A (tree ts B) → b ≡ true
    → a ≡ equal_statements (moved_statement ts (Close v) x) (under ts (drop 1 Bs) z) → a ≡ equal_statements (abstracted A (close_statement v x)) (under ts Bs z)
first_closed ts Bs A B v b a x z l e f g h =
    h ∙ ap (λ b. b && equal_statements (close_statement v x) (under ts (drop 1 Bs) z)) (sym g ∙ f) ∙ ap (equal_statements (abstracted A (close_statement v x))) (sym (first_is ts Bs B z l e))

-- a term for the variable of the first domain
substitution_none : (x y : Statement) → plain_term y ≡ None → substitution x y ≡ None
substitution_none (plain c) y h = refl
substitution_none (abstracted C x) (plain (is_type A)) h = refl
substitution_none (abstracted C x) (plain (has_type t A)) h = none_some (sym h)
substitution_none (abstracted C x) (plain (equal_types A B)) h = refl
substitution_none (abstracted C x) (plain (equal_terms s t A)) h = refl
substitution_none (abstracted C x) (plain type_goal) h = refl
substitution_none (abstracted C x) (plain (term_goal A)) h = refl
substitution_none (abstracted C x) (plain (type_equation_goal A B)) h = refl
substitution_none (abstracted C x) (plain (term_equation_goal s t A)) h = refl
substitution_none (abstracted C x) (abstracted D y) h = refl

substitution_some : (A : Expression) (x y : Statement) (p : Expression × Expression) → plain_term y ≡ Some p → substitution (abstracted A x) y ≡ when (equal_expressions A p.1) (opened p.0 (abstracted A x))
substitution_some C x (plain (is_type A)) p h = none_some h
substitution_some C x (plain (has_type t A)) p h = let same : (t, A) ≡ p = same_Some (t, A) p h in ap (λ (p : Expression × Expression). when (equal_expressions C p.1) (opened p.0 (abstracted C x))) same
substitution_some C x (plain (equal_types A B)) p h = none_some h
substitution_some C x (plain (equal_terms s t A)) p h = none_some h
substitution_some C x (plain type_goal) p h = none_some h
substitution_some C x (plain (term_goal A)) p h = none_some h
substitution_some C x (plain (type_equation_goal A B)) p h = none_some h
substitution_some C x (plain (term_equation_goal s t A)) p h = none_some h
substitution_some C x (abstracted D y) p h = none_some h

abbrev tested : Statement → Option Statement → Option Bool
tested y o = option_map (λ z. equal_statements z y) o

pub no_term : (x y z : Statement) → None ≡ plain_term y → None ≡ option_map (λ w. equal_statements w z) (substitution x y)
no_term x y z h = ap (tested z) (sym (substitution_none x y (sym h)))

pub no_domain : (ts : List Expression) (As : List ℕ) (x y z : Statement) (c : Claim) → x ≡ plain c → length As ≡ 0 → None ≡ option_map (λ w. equal_statements w z) (substitution (under ts As x) y)
no_domain ts [] x y z c e h = ap (λ x. tested z (substitution x y)) (sym e)
no_domain ts (A ∷ As) x y z c e h = absurd (omega (arith, h))

concluded_at : (ts : List Expression) (As : List ℕ) (A : ℕ) (x y : Statement) (p : ℕ × ℕ) (b : Bool) → 0 < length As → A ≡ get_or As 0 A → Some (two_in ts p) ≡ plain_term y → b ≡ equal_expressions (tree ts A) (tree ts p.1)
    → substitution (under ts As x) y ≡ when b (moved_statement ts (Open p.0) (under ts (drop 1 As) x))
concluded_at ts As A x y p b l e h f =
    ap (λ x. substitution x y) (first_is ts As A x l e) ∙ substitution_some (tree ts A) (under ts (drop 1 As) x) y (two_in ts p) (sym h)
    ∙ ap (λ b. when b (moved_statement ts (Open p.0) (under ts (drop 1 As) x))) (sym f)

pub other_type : (ts : List Expression) (As : List ℕ) (A : ℕ) (x y z : Statement) (p : ℕ × ℕ) (b : Bool) → 0 < length As → A ≡ get_or As 0 A → Some (two_in ts p) ≡ plain_term y → b ≡ equal_expressions (tree ts A) (tree ts p.1) → b ≡ false
    → None ≡ option_map (λ w. equal_statements w z) (substitution (under ts As x) y)
other_type ts As A x y z p b l e h f g = sym (ap (tested z) (concluded_at ts As A x y p b l e h f ∙ ap (λ b. when b (moved_statement ts (Open p.0) (under ts (drop 1 As) x))) g))

pub opened_first : (ts : List Expression) (As : List ℕ) (A : ℕ) (x y z : Statement) (p : ℕ × ℕ) (b a : Bool) → 0 < length As → A ≡ get_or As 0 A → Some (two_in ts p) ≡ plain_term y → b ≡ equal_expressions (tree ts A) (tree ts p.1) → b ≡ true
    → a ≡ equal_statements (moved_statement ts (Open p.0) (under ts (drop 1 As) x)) z → Some a ≡ option_map (λ w. equal_statements w z) (substitution (under ts As x) y)
opened_first ts As A x y z p b a l e h f g q =
    ap Some q ∙ sym (ap (tested z) (concluded_at ts As A x y p b l e h f ∙ ap (λ b. when b (moved_statement ts (Open p.0) (under ts (drop 1 As) x))) g))

-- a plain type
type_claim : (ts : List Expression) (As : List ℕ) (A : ℕ) → length As ≡ 0 → Some (tree ts A) ≡ Some (type_in (under ts As (plain_in ts (IsType A))))
type_claim ts [] A h = refl
type_claim ts (B ∷ As) A h = absurd (omega (arith, h))

pub type_there : (ts : List Expression) (As : List ℕ) (c : ClaimValue) (A : ℕ) → c ≡ IsType A → length As ≡ 0 → Some (tree ts A) ≡ Some (type_in (under ts As (plain_in ts c)))
type_there ts As c A e h = type_claim ts As A h ∙ ap (λ c. Some (type_in (under ts As (plain_in ts c)))) (sym e)

pub no_type : {P : Type 0} (ts : List Expression) (As : List ℕ) (c : ClaimValue) → ((A : ℕ) → c ≡ IsType A → ⊥) → is_plain_type (under ts As (plain_in ts c)) ≡ true → P
no_type ts (B ∷ As) c n h = let clash : false ≡ true = h in cc
no_type ts [] (IsType A) n h = absurd (n A refl)
no_type ts [] (HasType t A) n h = let clash : false ≡ true = h in cc
no_type ts [] (EqualTypes A B) n h = let clash : false ≡ true = h in cc
no_type ts [] (EqualTerms s t A) n h = let clash : false ≡ true = h in cc
no_type ts [] TypeGoal n h = let clash : false ≡ true = h in cc
no_type ts [] (TermGoal A) n h = let clash : false ≡ true = h in cc
no_type ts [] (TypeEquationGoal A B) n h = let clash : false ≡ true = h in cc
no_type ts [] (TermEquationGoal s t A) n h = let clash : false ≡ true = h in cc

pub type_under : {P : Type 0} (ts : List Expression) (As : List ℕ) (c : ClaimValue) → length As ≢ 0 → is_plain_type (under ts As (plain_in ts c)) ≡ true → P
type_under ts [] c n h = absurd (n refl)
type_under ts (B ∷ As) c n h = let clash : false ≡ true = h in cc

-- a free variable
pub free_is : (e : Expression) (v w : ℕ) → node_of e ≡ Free w → nat_eq v w ≡ equal_expressions (free v) e
free_is (bound i) v w h = cc
free_is (free u) v w h = let same : u ≡ w = cc in ap (nat_eq v) (sym same)
free_is (symbol s a) v w h = cc
free_is (meta m a) v w h = cc

pub no_free : (e : Expression) (v : ℕ) → ((w : ℕ) → node_of e ≡ Free w → ⊥) → false ≡ equal_expressions (free v) e
no_free (bound i) v n = refl
no_free (free u) v n = absurd (n u refl)
no_free (symbol s a) v n = refl
no_free (meta m a) v n = refl

variable_claim : (ts : List Expression) (As : List ℕ) (t A : ℕ) (x B : Expression) → length As ≡ 0 → (equal_expressions x (tree ts t) && equal_expressions B (tree ts A)) ≡ equal_statements (plain (has_type x B)) (under ts As (plain_in ts (HasType t A)))
variable_claim ts [] t A x B h = refl
variable_claim ts (C ∷ As) t A x B h = absurd (omega (arith, h))

pub variable_is : (ts : List Expression) (As : List ℕ) (c : ClaimValue) (t A : ℕ) (x B : Expression) (a b : Bool) → c ≡ HasType t A → length As ≡ 0 → a ≡ equal_expressions x (tree ts t) → a ≡ true → b ≡ equal_expressions B (tree ts A)
    → b ≡ equal_statements (plain (has_type x B)) (under ts As (plain_in ts c))
variable_is ts As c t A x B a b e h f g k = k ∙ ap (λ a. a && equal_expressions B (tree ts A)) (sym g ∙ f) ∙ variable_claim ts As t A x B h ∙ ap (λ c. equal_statements (plain (has_type x B)) (under ts As (plain_in ts c))) (sym e)

pub variable_not : (ts : List Expression) (As : List ℕ) (c : ClaimValue) (t A : ℕ) (x B : Expression) (a : Bool) → c ≡ HasType t A → length As ≡ 0 → a ≡ equal_expressions x (tree ts t) → a ≡ false
    → false ≡ equal_statements (plain (has_type x B)) (under ts As (plain_in ts c))
variable_not ts As c t A x B a e h f g = ap (λ a. a && equal_expressions B (tree ts A)) (sym g ∙ f) ∙ variable_claim ts As t A x B h ∙ ap (λ c. equal_statements (plain (has_type x B)) (under ts As (plain_in ts c))) (sym e)

pub no_variable : (ts : List Expression) (As : List ℕ) (c : ClaimValue) (x B : Expression) → ((t A : ℕ) → c ≡ HasType t A → ⊥) → false ≡ equal_statements (plain (has_type x B)) (under ts As (plain_in ts c))
no_variable ts (C ∷ As) c x B n = refl
no_variable ts [] (IsType A) x C n = refl
no_variable ts [] (HasType t A) x B n = absurd (n t A refl)
no_variable ts [] (EqualTypes A B) x C n = refl
no_variable ts [] (EqualTerms s t A) x C n = refl
no_variable ts [] TypeGoal x C n = refl
no_variable ts [] (TermGoal A) x C n = refl
no_variable ts [] (TypeEquationGoal A B) x C n = refl
no_variable ts [] (TermEquationGoal s t A) x C n = refl

pub variable_under : (ts : List Expression) (As : List ℕ) (c : ClaimValue) (x B : Expression) → length As ≢ 0 → false ≡ equal_statements (plain (has_type x B)) (under ts As (plain_in ts c))
variable_under ts [] c x B n = absurd (n refl)
variable_under ts (C ∷ As) c x B n = refl

pub no_plain : (ts : List Expression) (As : List ℕ) (x : Statement) → length As ≢ 0 → None ≡ plain_term (under ts As x)
no_plain ts [] x n = absurd (n refl)
no_plain ts (A ∷ As) x n = refl
