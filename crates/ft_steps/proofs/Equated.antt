-- Equal terms for the variable of a first domain, part by part.
use Rattle.std.proofs.Common.{◌≡◌, ◌≢◌, ℕ, suc, ◌+◌, ◌<◌, ◌≤◌, Bool, true, false, ◌&&◌, Option, Some, None, List, [], ◌∷◌, refl, sym, ap, ap₂, ◌∙◌, ◌-◌, subst, length, take, drop, get_or, arith}
use Rattle.std.specs.Prelude.{option_map}
use Rattle.std.proofs.lemmas.Option.{same_Some}
use Rattle.std.proofs.lemmas.List.{length-drop, take_all}
use Rattle.std.proofs.Math.Bool.{and_assoc, and-false}
use Rattle.ft_theory.specs.Expressions.{Expression, open_at}
use Rattle.ft_theory.specs.Statements.{Claim, is_type, has_type, equal_types, equal_terms, type_goal, term_goal, type_equation_goal, term_equation_goal, Statement, plain, abstracted, opened, boundary_of, boundary_of_claim, domain_count, equate, equate_goal, map_claim, map_statement}
use Rattle.ft_common.proofs.Options.{none_some}
use Rattle.ft_items.specs.Equal.{equal_claims, equal_expressions, equal_statements, has_head, has_head_claim, head, head_of_claim}
use Rattle.ft_items.specs.Rows.{equal_substitution, when}
use Rattle.ft_syntax.specs.Table.{tree}
use Rattle.ft_judge.specs.Meaning.{under}
use Rattle.ft_steps.specs.Moving.{domains_moved, equated, moved, moved_statement, plain_equation, three_in}
use Rattle.ft_steps.specs.declared.moving.Move.{Move}
use Rattle.ft_steps.specs.declared.moving.Move.TheVariants.{Open}
use Rattle.ft_steps.proofs.Substitutes.{first_is}
use Rattle.ft_steps.proofs.Moves.{lengths_differ}

substitution_none : (x y : Statement) → plain_equation y ≡ None → equal_substitution x y ≡ None
substitution_none (plain c) y h = refl
substitution_none (abstracted C x) (plain (is_type A)) h = refl
substitution_none (abstracted C x) (plain (has_type t A)) h = refl
substitution_none (abstracted C x) (plain (equal_types A B)) h = refl
substitution_none (abstracted C x) (plain (equal_terms s t A)) h = none_some (sym h)
substitution_none (abstracted C x) (plain type_goal) h = refl
substitution_none (abstracted C x) (plain (term_goal A)) h = refl
substitution_none (abstracted C x) (plain (type_equation_goal A B)) h = refl
substitution_none (abstracted C x) (plain (term_equation_goal s t A)) h = refl
substitution_none (abstracted C x) (abstracted D y) h = refl

-- the equation that is concluded, from the term of a first domain and the sides
abbrev sides_for : Expression → Statement → Expression × Expression × Expression → Option Statement
sides_for A x p = when (has_head x && equal_expressions A p.2) (equate (opened p.0 (abstracted A (boundary_of x))) (open_at (domain_count x) p.0 (head x)) (open_at (domain_count x) p.1 (head x)))

substitution_some : (A : Expression) (x y : Statement) (p : Expression × Expression × Expression) → plain_equation y ≡ Some p → equal_substitution (abstracted A x) y ≡ sides_for A x p
substitution_some C x (plain (is_type A)) p h = none_some h
substitution_some C x (plain (has_type t A)) p h = none_some h
substitution_some C x (plain (equal_types A B)) p h = none_some h
substitution_some C x (plain (equal_terms s t A)) p h = ap (sides_for C x) (same_Some (s, t, A) p h)
substitution_some C x (plain type_goal) p h = none_some h
substitution_some C x (plain (term_goal A)) p h = none_some h
substitution_some C x (plain (type_equation_goal A B)) p h = none_some h
substitution_some C x (plain (term_equation_goal s t A)) p h = none_some h
substitution_some C x (abstracted D y) p h = none_some h

abbrev tested : Statement → Option Statement → Option Bool
tested y o = option_map (λ z. equal_statements z y) o

pub no_equation : (x y z : Statement) → None ≡ plain_equation y → None ≡ option_map (λ w. equal_statements w z) (equal_substitution x y)
no_equation x y z h = ap (tested z) (sym (substitution_none x y (sym h)))

pub no_domain : (ts : List Expression) (As : List ℕ) (x y z : Statement) (c : Claim) → x ≡ plain c → length As ≡ 0 → None ≡ option_map (λ w. equal_statements w z) (equal_substitution (under ts As x) y)
no_domain ts [] x y z c e h = ap (λ x. tested z (equal_substitution x y)) (sym e)
no_domain ts (A ∷ As) x y z c e h = absurd (omega (arith, h))

-- the parts of a statement under domains
head_under : (ts : List Expression) (As : List ℕ) (c : Claim) → head (under ts As (plain c)) ≡ head_of_claim c
head_under ts [] c = refl
head_under ts (A ∷ As) c = head_under ts As c

has_under : (ts : List Expression) (As : List ℕ) (c : Claim) → has_head (under ts As (plain c)) ≡ has_head_claim c
has_under ts [] c = refl
has_under ts (A ∷ As) c = has_under ts As c

count_under : (ts : List Expression) (As : List ℕ) (c : Claim) → domain_count (under ts As (plain c)) ≡ length As
count_under ts [] c = refl
count_under ts (A ∷ As) c = ap suc (count_under ts As c)

goal_under : (ts : List Expression) (As : List ℕ) (c : Claim) → boundary_of (under ts As (plain c)) ≡ under ts As (plain (boundary_of_claim c))
goal_under ts [] c = refl
goal_under ts (A ∷ As) c = ap (abstracted (tree ts A)) (goal_under ts As c)

-- the equation below the other domains
abbrev concluded : List Expression → List ℕ → Claim → ℕ × ℕ × ℕ → Statement
concluded ts D c p = equate (moved_statement ts (Open p.0) (under ts D (plain (boundary_of_claim c)))) (open_at (length D) (tree ts p.0) (head_of_claim c)) (open_at (length D) (tree ts p.1) (head_of_claim c))

sides_under : (ts : List Expression) (A : Expression) (D : List ℕ) (c : Claim) (p : ℕ × ℕ × ℕ) → sides_for A (under ts D (plain c)) (three_in ts p) ≡ when (has_head_claim c && equal_expressions A (tree ts p.2)) (concluded ts D c p)
sides_under ts A D c p =
    ap₂ (λ b x. when (b && equal_expressions A (tree ts p.2)) (equate (moved_statement ts (Open p.0) x) (open_at (domain_count (under ts D (plain c))) (tree ts p.0) (head (under ts D (plain c)))) (open_at (domain_count (under ts D (plain c))) (tree ts p.1) (head (under ts D (plain c)))))) (has_under ts D c) (goal_under ts D c)
    ∙ ap₂ (λ n h. when (has_head_claim c && equal_expressions A (tree ts p.2)) (equate (moved_statement ts (Open p.0) (under ts D (plain (boundary_of_claim c)))) (open_at n (tree ts p.0) h) (open_at n (tree ts p.1) h))) (count_under ts D c) (head_under ts D c)

concluded_at : (ts : List Expression) (As : List ℕ) (A : ℕ) (c : Claim) (y : Statement) (p : ℕ × ℕ × ℕ) → 0 < length As → A ≡ get_or As 0 A → Some (three_in ts p) ≡ plain_equation y
    → equal_substitution (under ts As (plain c)) y ≡ when (has_head_claim c && equal_expressions (tree ts A) (tree ts p.2)) (concluded ts (drop 1 As) c p)
concluded_at ts As A c y p l e h =
    ap (λ x. equal_substitution x y) (first_is ts As A (plain c) l e) ∙ substitution_some (tree ts A) (under ts (drop 1 As) (plain c)) y (three_in ts p) (sym h)
    ∙ sides_under ts (tree ts A) (drop 1 As) c p

first_there : (As : List ℕ) → length As ≢ 0 → (A : ℕ) × (0 < length As) × (A ≡ get_or As 0 A)
first_there [] n = absurd (n refl)
first_there (A ∷ As) n = (A, omega arith, refl)

pub no_head : (ts : List Expression) (As : List ℕ) (c : Claim) (y z : Statement) (p : ℕ × ℕ × ℕ) (b : Bool) → length As ≢ 0 → Some (three_in ts p) ≡ plain_equation y → b ≡ has_head_claim c → b ≡ false
    → None ≡ option_map (λ w. equal_statements w z) (equal_substitution (under ts As (plain c)) y)
no_head ts As c y z p b n h f g =
    let a = first_there As n in
    sym (ap (tested z) (concluded_at ts As a.0 c y p a.1 a.2 h ∙ ap (λ b. when (b && equal_expressions (tree ts a.0) (tree ts p.2)) (concluded ts (drop 1 As) c p)) (sym f ∙ g)))

pub other_type : (ts : List Expression) (As : List ℕ) (A : ℕ) (c : Claim) (y z : Statement) (p : ℕ × ℕ × ℕ) (b : Bool) → 0 < length As → A ≡ get_or As 0 A → Some (three_in ts p) ≡ plain_equation y → b ≡ equal_expressions (tree ts A) (tree ts p.2) → b ≡ false
    → None ≡ option_map (λ w. equal_statements w z) (equal_substitution (under ts As (plain c)) y)
other_type ts As A c y z p b l e h f g =
    sym (ap (tested z) (concluded_at ts As A c y p l e h ∙ ap (λ b. when (has_head_claim c && b) (concluded ts (drop 1 As) c p)) (sym f ∙ g) ∙ ap (λ b. when b (concluded ts (drop 1 As) c p)) (and-false (has_head_claim c))))

-- the comparison
equated_at : (ts : List Expression) (m : Move) (k : ℕ) (As Bs : List ℕ) (c d : Claim) (h j : Expression)
    → (domains_moved ts m k As Bs && equal_claims (equate_goal (map_claim (moved ts m (k + length As)) c) h j) d) ≡ equal_statements (equate (map_statement (moved ts m) k (under ts As (plain c))) h j) (under ts Bs (plain d))
equated_at ts m k [] [] c d h j = let all : k + 0 ≡ k = omega arith in ap (λ n. equal_claims (equate_goal (map_claim (moved ts m n) c) h j) d) all
equated_at ts m k [] (B ∷ Bs) c d h j = refl
equated_at ts m k (A ∷ As) [] c d h j = refl
equated_at ts m k (A ∷ As) (B ∷ Bs) c d h j =
    let next : k + suc (length As) ≡ suc k + length As = omega arith in
    and_assoc (equal_expressions (moved ts m k (tree ts A)) (tree ts B)) (domains_moved ts m (suc k) As Bs) (equal_claims (equate_goal (map_claim (moved ts m (k + suc (length As))) c) h j) d)
    ∙ ap (λ n. equal_expressions (moved ts m k (tree ts A)) (tree ts B) && (domains_moved ts m (suc k) As Bs && equal_claims (equate_goal (map_claim (moved ts m n) c) h j) d)) next
    ∙ ap (λ b. equal_expressions (moved ts m k (tree ts A)) (tree ts B) && b) (equated_at ts m (suc k) As Bs c d h j)

-- the test of the conclusion is that of its domains and its claim
tested_at : (ts : List Expression) (As Bs : List ℕ) (A : ℕ) (c d : Claim) (y : Statement) (p : ℕ × ℕ × ℕ) (a b : Bool) → 0 < length As → A ≡ get_or As 0 A → Some (three_in ts p) ≡ plain_equation y → a ≡ has_head_claim c → a ≡ true
    → b ≡ equal_expressions (tree ts A) (tree ts p.2) → b ≡ true
    → option_map (λ w. equal_statements w (under ts Bs (plain d))) (equal_substitution (under ts As (plain c)) y) ≡ Some (domains_moved ts (Open p.0) 0 (drop 1 As) Bs && equal_claims (equated (length (drop 1 As)) (tree ts p.0) (tree ts p.1) c) d)
tested_at ts As Bs A c d y p a b l e h q r f g =
    let all : 0 + length (drop 1 As) ≡ length (drop 1 As) = omega arith in
    ap (tested (under ts Bs (plain d))) (concluded_at ts As A c y p l e h ∙ ap₂ (λ a b. when (a && b) (concluded ts (drop 1 As) c p)) (sym q ∙ r) (sym f ∙ g))
    ∙ ap Some (sym (equated_at ts (Open p.0) 0 (drop 1 As) Bs (boundary_of_claim c) d (open_at (length (drop 1 As)) (tree ts p.0) (head_of_claim c)) (open_at (length (drop 1 As)) (tree ts p.1) (head_of_claim c)))
    ∙ ap (λ n. domains_moved ts (Open p.0) 0 (drop 1 As) Bs && equal_claims (equate_goal (map_claim (moved ts (Open p.0) n) (boundary_of_claim c)) (open_at (length (drop 1 As)) (tree ts p.0) (head_of_claim c)) (open_at (length (drop 1 As)) (tree ts p.1) (head_of_claim c))) d) all)

pub other_number : (ts : List Expression) (As Bs : List ℕ) (A : ℕ) (c d : Claim) (y : Statement) (p : ℕ × ℕ × ℕ) (a b : Bool) → 0 < length As → A ≡ get_or As 0 A → Some (three_in ts p) ≡ plain_equation y → a ≡ has_head_claim c → a ≡ true
    → b ≡ equal_expressions (tree ts A) (tree ts p.2) → b ≡ true → length (drop 1 As) ≢ length Bs → Some false ≡ option_map (λ w. equal_statements w (under ts Bs (plain d))) (equal_substitution (under ts As (plain c)) y)
other_number ts As Bs A c d y p a b l e h q r f g n =
    sym (tested_at ts As Bs A c d y p a b l e h q r f g ∙ ap (λ t. Some (t && equal_claims (equated (length (drop 1 As)) (tree ts p.0) (tree ts p.1) c) d)) (lengths_differ ts (Open p.0) 0 (drop 1 As) Bs n))

pub other_domains : (ts : List Expression) (As Bs : List ℕ) (A : ℕ) (c d : Claim) (y : Statement) (p : ℕ × ℕ × ℕ) (a b t : Bool) → 0 < length As → A ≡ get_or As 0 A → Some (three_in ts p) ≡ plain_equation y → a ≡ has_head_claim c → a ≡ true
    → b ≡ equal_expressions (tree ts A) (tree ts p.2) → b ≡ true → t ≡ domains_moved ts (Open p.0) 0 (drop 1 As) Bs → t ≡ false → Some false ≡ option_map (λ w. equal_statements w (under ts Bs (plain d))) (equal_substitution (under ts As (plain c)) y)
other_domains ts As Bs A c d y p a b t l e h q r f g k n =
    sym (tested_at ts As Bs A c d y p a b l e h q r f g ∙ ap (λ t. Some (t && equal_claims (equated (length (drop 1 As)) (tree ts p.0) (tree ts p.1) c) d)) (sym k ∙ n))

pub equated_under : (ts : List Expression) (As Bs : List ℕ) (A : ℕ) (c d : Claim) (y : Statement) (p : ℕ × ℕ × ℕ) (a b t w : Bool) → 0 < length As → A ≡ get_or As 0 A → Some (three_in ts p) ≡ plain_equation y → a ≡ has_head_claim c → a ≡ true
    → b ≡ equal_expressions (tree ts A) (tree ts p.2) → b ≡ true → t ≡ domains_moved ts (Open p.0) 0 (drop 1 As) Bs → t ≡ true → w ≡ equal_claims (equated (length (drop 1 As)) (tree ts p.0) (tree ts p.1) c) d
    → Some w ≡ option_map (λ w. equal_statements w (under ts Bs (plain d))) (equal_substitution (under ts As (plain c)) y)
equated_under ts As Bs A c d y p a b t w l e h q r f g k n s =
    ap Some s ∙ sym (tested_at ts As Bs A c d y p a b l e h q r f g ∙ ap (λ t. Some (t && equal_claims (equated (length (drop 1 As)) (tree ts p.0) (tree ts p.1) c) d)) (sym k ∙ n))

pub no_plain : (ts : List Expression) (As : List ℕ) (x : Statement) → length As ≢ 0 → None ≡ plain_equation (under ts As x)
no_plain ts [] x n = absurd (n refl)
no_plain ts (A ∷ As) x n = refl

-- all domains after the first
pub others_are : (As : List ℕ) → take (length As - 1) (drop 1 As) ≡ drop 1 As
others_are As = take_all (length As - 1) (drop 1 As) (subst (λ n. n ≤ length As - 1) (sym (length-drop 1 As)) (omega arith))
