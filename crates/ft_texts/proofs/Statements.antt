-- The text of a statement and of a set tells the statement and the set, and where it ends.
use Rattle.std.proofs.Common.{◌≡◌, ℕ, Bool, List, [], ◌∷◌, ◌++◌, refl, sym, ap, ◌∙◌, append_assoc, arith, length, zero, suc, ap₂}
use Rattle.std.specs.Prelude.{codes, map, cond, nat_eq}
use Rattle.std.specs.List.{flat_map}
use Rattle.ft_theory.specs.Expressions.{Expression, bound}
use Rattle.ft_theory.specs.Statements.{Claim, is_type, has_type, equal_types, equal_terms, type_goal, term_goal, type_equation_goal, term_equation_goal, Statement, plain, abstracted, AllOfClaim, AllOfStatement}
use Rattle.ft_theory.specs.Small.{IsSmall}
use Rattle.ft_items.specs.Sets.{Atom, met, var}
use Rattle.ft_items.specs.Equal.{is_thesis_claim, is_thesis}
use Rattle.ft_items.specs.Texts.{joined, expression_text, claim_text, statement_text, atom_text, set_text, ItsNumbersFit, AtomFits, EachAtomFits}
use Rattle.ft_texts.proofs.Pieces.{Begins, IsNoDigit, decimal_same, head_same, heads_apart, after_first}
use Rattle.ft_texts.proofs.Expressions.{further, expression_same}

-- the texts, each after a space
abbrev pub after_spaces : List (List ℕ) → List ℕ
after_spaces texts = flat_map (λ y. codes " " ++ y) texts

-- each number in the expressions fits
abbrev pub EachFits : List Expression → Type 0
EachFits [] = Unit {0}
EachFits (e ∷ es) = ItsNumbersFit e × EachFits es

spaces_begin : (xs : List (List ℕ)) (r : List ℕ) → Begins IsNoDigit (after_spaces xs ++ (32 ∷ r))
spaces_begin [] r = λ a b. omega (arith, a)
spaces_begin (x ∷ xs) r = λ a b. omega (arith, a)

cons_expressions : (e f : Expression) (es fs : List Expression) → e ≡ f → es ≡ fs → (e ∷ es) ≡ (f ∷ fs)
cons_expressions e f es fs p q = cc

-- as many expressions, each after a space
expressions_same : (es fs : List Expression) (r s : List ℕ) → length es ≡ length fs → EachFits es → EachFits fs
    → after_spaces (map expression_text es) ++ (32 ∷ r) ≡ after_spaces (map expression_text fs) ++ (32 ∷ s) → (es ≡ fs) × (r ≡ s)
expressions_same [] [] r s n a b q = (refl, after_first q)
expressions_same [] (f ∷ fs) r s n a b q = absurd (omega (arith, n))
expressions_same (e ∷ es) [] r s n a b q = absurd (omega (arith, n))
expressions_same (e ∷ es) (f ∷ fs) r s n a b q =
    let v : List ℕ = after_spaces (map expression_text es) ++ (32 ∷ r) in
    let w : List ℕ = after_spaces (map expression_text fs) ++ (32 ∷ s) in
    let i : (e ≡ f) × (v ≡ w) = expression_same e f v w a.0 b.0 (spaces_begin (map expression_text es) r) (spaces_begin (map expression_text fs) s)
    (sym (append_assoc (expression_text e) (after_spaces (map expression_text es)) (32 ∷ r)) ∙ after_first q ∙ append_assoc (expression_text f) (after_spaces (map expression_text fs)) (32 ∷ s)) in
    let j : (es ≡ fs) × (r ≡ s) = expressions_same es fs r s (omega (arith, n)) a.1 b.1 i.1 in
    (cons_expressions e f es fs i.0 j.0, j.1)

-- the letter of a claim or goal, and its expressions
abbrev letter : Claim → ℕ
letter (is_type A) = 84
letter (has_type t A) = 116
letter (equal_types A B) = 69
letter (equal_terms s t A) = 101
letter type_goal = 84
letter (term_goal A) = 116
letter (type_equation_goal A B) = 69
letter (term_equation_goal s t A) = 101

abbrev expressions_in : Claim → List Expression
expressions_in (is_type A) = A ∷ []
expressions_in (has_type t A) = t ∷ A ∷ []
expressions_in (equal_types A B) = A ∷ B ∷ []
expressions_in (equal_terms s t A) = s ∷ t ∷ A ∷ []
expressions_in type_goal = []
expressions_in (term_goal A) = A ∷ []
expressions_in (type_equation_goal A B) = A ∷ B ∷ []
expressions_in (term_equation_goal s t A) = s ∷ t ∷ A ∷ []

claim_parts : (c : Claim) → claim_text c ≡ letter c ∷ after_spaces (map expression_text (expressions_in c))
claim_parts (is_type A) = refl
claim_parts (has_type t A) = refl
claim_parts (equal_types A B) = refl
claim_parts (equal_terms s t A) = refl
claim_parts type_goal = refl
claim_parts (term_goal A) = refl
claim_parts (type_equation_goal A B) = refl
claim_parts (term_equation_goal s t A) = refl

-- the i-th expression of a list, from 0; a dummy past its end
abbrev expression_at : ℕ → List Expression → Expression
expression_at i [] = bound 0
expression_at zero (e ∷ es) = e
expression_at (suc i) (e ∷ es) = expression_at i es

-- the claim or goal that kind, letter and expressions tell
abbrev claim_from : Bool → ℕ → List Expression → Claim
claim_from b l es =
    cond (nat_eq l 84) (cond b (is_type (expression_at 0 es)) type_goal)
    (cond (nat_eq l 116) (cond b (has_type (expression_at 0 es) (expression_at 1 es)) (term_goal (expression_at 0 es)))
    (cond (nat_eq l 69) (cond b (equal_types (expression_at 0 es) (expression_at 1 es)) (type_equation_goal (expression_at 0 es) (expression_at 1 es)))
    (cond b (equal_terms (expression_at 0 es) (expression_at 1 es) (expression_at 2 es)) (term_equation_goal (expression_at 0 es) (expression_at 1 es) (expression_at 2 es)))))

-- how many expressions there are
abbrev count_from : Bool → ℕ → ℕ
count_from b l = cond (nat_eq l 84) (cond b 1 0) (cond (nat_eq l 116) (cond b 2 1) (cond (nat_eq l 69) 2 3))

claim_told : (c : Claim) → claim_from (is_thesis_claim c) (letter c) (expressions_in c) ≡ c
claim_told (is_type A) = refl
claim_told (has_type t A) = refl
claim_told (equal_types A B) = refl
claim_told (equal_terms s t A) = refl
claim_told type_goal = refl
claim_told (term_goal A) = refl
claim_told (type_equation_goal A B) = refl
claim_told (term_equation_goal s t A) = refl

count_told : (c : Claim) → count_from (is_thesis_claim c) (letter c) ≡ length (expressions_in c)
count_told (is_type A) = refl
count_told (has_type t A) = refl
count_told (equal_types A B) = refl
count_told (equal_terms s t A) = refl
count_told type_goal = refl
count_told (term_goal A) = refl
count_told (type_equation_goal A B) = refl
count_told (term_equation_goal s t A) = refl

-- each expression of the claim fits
claim_fits : (c : Claim) → AllOfClaim (λ e. IsSmall e × ItsNumbersFit e) c → EachFits (expressions_in c)
claim_fits (is_type A) h = (h.1, tt)
claim_fits (has_type t A) h = (h.0.1, (h.1.1, tt))
claim_fits (equal_types A B) h = (h.0.1, (h.1.1, tt))
claim_fits (equal_terms s t A) h = (h.0.1, (h.1.1, (h.2.1, tt)))
claim_fits type_goal h = tt
claim_fits (term_goal A) h = (h.1, tt)
claim_fits (type_equation_goal A B) h = (h.0.1, (h.1.1, tt))
claim_fits (term_equation_goal s t A) h = (h.0.1, (h.1.1, (h.2.1, tt)))

-- two claims or two goals, before a space
claim_same : (c d : Claim) (r s : List ℕ) → is_thesis_claim c ≡ is_thesis_claim d → EachFits (expressions_in c) → EachFits (expressions_in d)
    → claim_text c ++ (32 ∷ r) ≡ claim_text d ++ (32 ∷ s) → (c ≡ d) × (r ≡ s)
claim_same c d r s k a b q =
    let x : List (List ℕ) = map expression_text (expressions_in c) in
    let y : List (List ℕ) = map expression_text (expressions_in d) in
    let e : (letter c ∷ (after_spaces x ++ (32 ∷ r))) ≡ (letter d ∷ (after_spaces y ++ (32 ∷ s))) = sym (ap (λ z. z ++ (32 ∷ r)) (claim_parts c)) ∙ q ∙ ap (λ z. z ++ (32 ∷ s)) (claim_parts d) in
    let l : letter c ≡ letter d = head_same (letter c) (letter d) (after_spaces x ++ (32 ∷ r)) (after_spaces y ++ (32 ∷ s)) e in
    let i : (expressions_in c ≡ expressions_in d) × (r ≡ s) = expressions_same (expressions_in c) (expressions_in d) r s (sym (count_told c) ∙ ap₂ count_from k l ∙ count_told d) a b (after_first e) in
    (sym (claim_told c) ∙ ap (λ z. claim_from z (letter c) (expressions_in c)) k ∙ ap₂ (claim_from (is_thesis_claim d)) l i.0 ∙ claim_told d, i.1)

-- a claim's or goal's text begins with a letter, and no brace
claim_no_brace : {A : Type 0} (c : Claim) (r s : List ℕ) → claim_text c ++ r ≡ 123 ∷ s → A
claim_no_brace (is_type A) r s q = heads_apart (λ e. omega (arith, e)) q
claim_no_brace (has_type t A) r s q = heads_apart (λ e. omega (arith, e)) q
claim_no_brace (equal_types A B) r s q = heads_apart (λ e. omega (arith, e)) q
claim_no_brace (equal_terms s t A) r w q = heads_apart (λ e. omega (arith, e)) q
claim_no_brace type_goal r s q = heads_apart (λ e. omega (arith, e)) q
claim_no_brace (term_goal A) r s q = heads_apart (λ e. omega (arith, e)) q
claim_no_brace (type_equation_goal A B) r s q = heads_apart (λ e. omega (arith, e)) q
claim_no_brace (term_equation_goal s t A) r w q = heads_apart (λ e. omega (arith, e)) q

-- the text of a domain, before the rest of the statement and what follows
domain_then : (xs ys r : List ℕ) → ((xs ++ (125 ∷ [])) ++ ys) ++ r ≡ xs ++ (125 ∷ (ys ++ r))
domain_then xs ys r = append_assoc (xs ++ (125 ∷ [])) ys r ∙ append_assoc xs (125 ∷ []) (ys ++ r)

-- two theses or two boundaries, before a space
pub statement_same : (x y : Statement) (k l : ℕ) (r s : List ℕ) → is_thesis x ≡ is_thesis y
    → AllOfStatement (λ k e. IsSmall e × ItsNumbersFit e) k x → AllOfStatement (λ k e. IsSmall e × ItsNumbersFit e) l y
    → statement_text x ++ (32 ∷ r) ≡ statement_text y ++ (32 ∷ s) → (x ≡ y) × (r ≡ s)
statement_same (plain c) (plain d) k l r s h a b q = let i : (c ≡ d) × (r ≡ s) = claim_same c d r s h (claim_fits c a) (claim_fits d b) q in (ap plain i.0, i.1)
statement_same (plain c) (abstracted B y) k l r s h a b q = claim_no_brace c (32 ∷ r) (((expression_text B ++ (125 ∷ [])) ++ statement_text y) ++ (32 ∷ s)) q
statement_same (abstracted A x) (plain d) k l r s h a b q = claim_no_brace d (32 ∷ s) (((expression_text A ++ (125 ∷ [])) ++ statement_text x) ++ (32 ∷ r)) (sym q)
statement_same (abstracted A x) (abstracted B y) k l r s h a b q =
    let v : List ℕ = statement_text x ++ (32 ∷ r) in
    let w : List ℕ = statement_text y ++ (32 ∷ s) in
    let i : (A ≡ B) × ((125 ∷ v) ≡ (125 ∷ w)) = expression_same A B (125 ∷ v) (125 ∷ w) a.0.1 b.0.1 (λ a b. omega (arith, b)) (λ a b. omega (arith, b))
    (sym (domain_then (expression_text A) (statement_text x) (32 ∷ r)) ∙ after_first q ∙ domain_then (expression_text B) (statement_text y) (32 ∷ s)) in
    let j : (x ≡ y) × (r ≡ s) = statement_same x y (suc k) (suc l) r s h a.1 b.1 (after_first i.1) in
    (ap₂ abstracted i.0 j.0, j.1)

-- Sets.

-- an atom's text begins with its letter
atom_begins : {A : Type 0} (a : Atom) (r : List ℕ) (s : List ℕ) → atom_text a ++ r ≡ 93 ∷ s → A
atom_begins (met m) r s q = heads_apart (λ e. omega (arith, e)) q
atom_begins (var v) r s q = heads_apart (λ e. omega (arith, e)) q

-- two atoms, each before what does not begin with a digit
atom_same : (a b : Atom) (r s : List ℕ) → AtomFits a → AtomFits b → Begins IsNoDigit r → Begins IsNoDigit s → atom_text a ++ r ≡ atom_text b ++ s → (a ≡ b) × (r ≡ s)
atom_same (met m) (met n) r s a b t u q = let i : (m ≡ n) × (r ≡ s) = decimal_same m n r s a b t u (after_first q) in (ap met i.0, i.1)
atom_same (met m) (var w) r s a b t u q = heads_apart (λ e. omega (arith, e)) q
atom_same (var v) (met n) r s a b t u q = heads_apart (λ e. omega (arith, e)) q
atom_same (var v) (var w) r s a b t u q = let i : (v ≡ w) × (r ≡ s) = decimal_same v w r s a b t u (after_first q) in (ap var i.0, i.1)

commas_begin : (xs : List (List ℕ)) (r : List ℕ) → Begins IsNoDigit (further xs ++ (93 ∷ r))
commas_begin [] r = λ a b. omega (arith, b)
commas_begin (x ∷ xs) r = λ a b. omega (arith, a)

cons_atoms : (a b : Atom) (S R : List Atom) → a ≡ b → S ≡ R → (a ∷ S) ≡ (b ∷ R)
cons_atoms a b S R p q = cc

-- further atoms, each after a comma, up to the bracket
further_atoms : (S R : List Atom) (r s : List ℕ) → EachAtomFits S → EachAtomFits R
    → further (map atom_text S) ++ (93 ∷ r) ≡ further (map atom_text R) ++ (93 ∷ s) → (S ≡ R) × (r ≡ s)
further_atoms [] [] r s t u q = (refl, after_first q)
further_atoms [] (b ∷ R) r s t u q = heads_apart (λ e. omega (arith, e)) q
further_atoms (a ∷ S) [] r s t u q = heads_apart (λ e. omega (arith, e)) q
further_atoms (a ∷ S) (b ∷ R) r s t u q =
    let v : List ℕ = further (map atom_text S) ++ (93 ∷ r) in
    let w : List ℕ = further (map atom_text R) ++ (93 ∷ s) in
    let i : (a ≡ b) × (v ≡ w) = atom_same a b v w t.0 u.0 (commas_begin (map atom_text S) r) (commas_begin (map atom_text R) s)
    (sym (append_assoc (atom_text a) (further (map atom_text S)) (93 ∷ r)) ∙ after_first q ∙ append_assoc (atom_text b) (further (map atom_text R)) (93 ∷ s)) in
    let j : (S ≡ R) × (r ≡ s) = further_atoms S R r s t.1 u.1 i.1 in
    (cons_atoms a b S R i.0 j.0, j.1)

-- all atoms up to the bracket
all_atoms : (S R : List Atom) (r s : List ℕ) → EachAtomFits S → EachAtomFits R
    → joined (codes ",") (map atom_text S) ++ (93 ∷ r) ≡ joined (codes ",") (map atom_text R) ++ (93 ∷ s) → (S ≡ R) × (r ≡ s)
all_atoms [] [] r s t u q = (refl, after_first q)
all_atoms [] (b ∷ R) r s t u q = atom_begins b (further (map atom_text R) ++ (93 ∷ s)) r (sym (q ∙ append_assoc (atom_text b) (further (map atom_text R)) (93 ∷ s)))
all_atoms (a ∷ S) [] r s t u q = atom_begins a (further (map atom_text S) ++ (93 ∷ r)) s (sym (append_assoc (atom_text a) (further (map atom_text S)) (93 ∷ r)) ∙ q)
all_atoms (a ∷ S) (b ∷ R) r s t u q = further_atoms (a ∷ S) (b ∷ R) r s t u (ap (λ z. 44 ∷ z) q)

-- two sets, before what follows
pub set_same : (S R : List Atom) (r s : List ℕ) → EachAtomFits S → EachAtomFits R → set_text S ++ r ≡ set_text R ++ s → (S ≡ R) × (r ≡ s)
set_same S R r s t u q = all_atoms S R r s t u
    (sym (append_assoc (joined (codes ",") (map atom_text S)) (93 ∷ []) r) ∙ after_first q ∙ append_assoc (joined (codes ",") (map atom_text R)) (93 ∷ []) s)
