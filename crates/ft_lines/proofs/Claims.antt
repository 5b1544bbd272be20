-- Theses and boundaries: what is read is the text, and the text is read.
use Rattle.std.proofs.Common.{◌≡◌, ◌∙◌, sym, ap, refl, subst, ℕ, zero, suc, ◌≤◌, ◌<◌, List, [], ◌∷◌, ◌++◌, length, drop, Ok, Err, Bool, true, false, if◌then◌else◌, append_assoc, append-nil, arith}
use lib.ListN.{length-append}
use Rattle.std.specs.Prelude.{codes}
use Rattle.ft_theory.specs.Expressions.{Expression}
use Rattle.ft_theory.specs.Statements.{Claim, is_type, has_type, equal_types, equal_terms, type_goal, term_goal, type_equation_goal, term_equation_goal, Statement, plain, abstracted, AllOfClaim, AllOfStatement}
use Rattle.ft_theory.specs.Small.{IsSmall}
use Rattle.ft_items.specs.Equal.{is_thesis_claim, is_thesis}
use Rattle.ft_items.specs.Texts.{spaced, expression_text, claim_text, statement_text, ItsNumbersFit, StatementFits}
use Rattle.ft_lines.specs.declared.fault.Fault.TheVariants.{Form}
use Rattle.ft_lines.specs.Reading.{Outcome, Reader, ◌>>=◌, pure, sees, sees_digit, expect}
use Rattle.ft_lines.specs.Expressions.{expression}
use Rattle.ft_lines.specs.Statements.{one, two, three, type_form, term_form, type_equation, term_equation, equation, form, term_wanted, goal as goal_read, domain, domains_from, over, statement, thesis, boundary}
use Rattle.ft_common.proofs.Booleans.{false_true}
use Rattle.ft_common.proofs.Choices.{by_test, taken, not_taken}
use Rattle.ft_common.proofs.Results.{err_ok, ok_ok}
use Rattle.ft_lines.proofs.Chains.{in_turn, taken_both, not_taken_both, sees_is, expected}
use Rattle.ft_lines.proofs.Trees.{expression_read, expression_is}
use Rattle.ft_lines.proofs.Reading.{domains_on}

-- small, with numbers that fit
abbrev pub Fits : Expression → Type 0
Fits e = IsSmall e × ItsNumbersFit e

-- ---- expressions with spaces
one_is : (a : Expression) (cs rest : List ℕ) → one cs ≡ Ok (a, rest) → (cs ≡ 32 ∷ (expression_text a ++ rest)) × Fits a
unfolding one
one_is a cs rest h =
    let p = in_turn (expect 32 cs) (λ _. expression) a rest h in
    let t = expression_is a p.0.1 rest p.2 in
    (expected 32 cs p.0.1 p.1 ∙ ap (λ x. 32 ∷ x) t.0, (t.1, t.2))

two_is : (p : Expression × Expression) (cs rest : List ℕ) → two cs ≡ Ok (p, rest)
    → (cs ≡ 32 ∷ (expression_text p.0 ++ (32 ∷ (expression_text p.1 ++ rest)))) × Fits p.0 × Fits p.1
unfolding two
two_is r cs rest h =
    let p = in_turn (one cs) (λ a. one >>= (λ b. pure (a, b))) r rest h in
    let q = in_turn (one p.0.1) (λ b. pure (p.0.0, b)) r rest p.2 in
    let e = ok_ok ((p.0.0, q.0.0), q.0.1) (r, rest) q.2 in
    let f = one_is p.0.0 cs p.0.1 p.1 in
    let g = one_is q.0.0 p.0.1 q.0.1 q.1 in
    subst (λ r. (cs ≡ 32 ∷ (expression_text r.0 ++ (32 ∷ (expression_text r.1 ++ rest)))) × Fits r.0 × Fits r.1) (ap (λ x. x.0) e)
    (f.0 ∙ ap (λ x. 32 ∷ (expression_text p.0.0 ++ x)) (g.0 ∙ ap (λ x. 32 ∷ (expression_text q.0.0 ++ x.1)) e), f.1, g.1)

three_is : (p : Expression × Expression × Expression) (cs rest : List ℕ) → three cs ≡ Ok (p, rest)
    → (cs ≡ 32 ∷ (expression_text p.0 ++ (32 ∷ (expression_text p.1 ++ (32 ∷ (expression_text p.2 ++ rest)))))) × Fits p.0 × Fits p.1 × Fits p.2
unfolding three
three_is r cs rest h =
    let p = in_turn (one cs) (λ a. two >>= (λ p. pure (a, p.0, p.1))) r rest h in
    let q = in_turn (two p.0.1) (λ u. pure (p.0.0, u.0, u.1)) r rest p.2 in
    let e = ok_ok ((p.0.0, q.0.0.0, q.0.0.1), q.0.1) (r, rest) q.2 in
    let f = one_is p.0.0 cs p.0.1 p.1 in
    let g = two_is q.0.0 p.0.1 q.0.1 q.1 in
    subst (λ r. (cs ≡ 32 ∷ (expression_text r.0 ++ (32 ∷ (expression_text r.1 ++ (32 ∷ (expression_text r.2 ++ rest)))))) × Fits r.0 × Fits r.1 × Fits r.2) (ap (λ x. x.0) e)
    (f.0 ∙ ap (λ x. 32 ∷ (expression_text p.0.0 ++ x)) (g.0 ∙ ap (λ x. 32 ∷ (expression_text q.0.0.0 ++ (32 ∷ (expression_text q.0.0.1 ++ x.1)))) e), f.1, g.1, g.2)

one_read : (a : Expression) (rest : List ℕ) → Fits a → sees_digit rest ≡ false → one (32 ∷ (expression_text a ++ rest)) ≡ Ok (a, rest)
unfolding one expect sees
one_read a rest f stops = expression_read a rest f.0 f.1 stops

two_read : (a b : Expression) (rest : List ℕ) → Fits a → Fits b → sees_digit rest ≡ false → two (32 ∷ (expression_text a ++ (32 ∷ (expression_text b ++ rest)))) ≡ Ok ((a, b), rest)
unfolding two
two_read a b rest f g stops = rw (one_read a (32 ∷ (expression_text b ++ rest)) f refl, one_read b rest g stops) refl

three_read : (a b d : Expression) (rest : List ℕ) → Fits a → Fits b → Fits d → sees_digit rest ≡ false
    → three (32 ∷ (expression_text a ++ (32 ∷ (expression_text b ++ (32 ∷ (expression_text d ++ rest)))))) ≡ Ok ((a, b, d), rest)
unfolding three
three_read a b d rest f g k stops = rw (one_read a (32 ∷ (expression_text b ++ (32 ∷ (expression_text d ++ rest)))) f refl, two_read b d rest g k stops) refl

-- the texts of a claim, before what follows
one_then : (c : ℕ) (x rest : List ℕ) → spaced ((c ∷ []) ∷ x ∷ []) ++ rest ≡ c ∷ 32 ∷ (x ++ rest)
one_then c x rest = ap (λ z. c ∷ 32 ∷ (z ++ rest)) (append-nil x)

two_then : (c : ℕ) (x y rest : List ℕ) → spaced ((c ∷ []) ∷ x ∷ y ∷ []) ++ rest ≡ c ∷ 32 ∷ (x ++ (32 ∷ (y ++ rest)))
two_then c x y rest = ap (λ z. c ∷ 32 ∷ ((x ++ (32 ∷ z)) ++ rest)) (append-nil y) ∙ ap (λ z. c ∷ 32 ∷ z) (append_assoc x (32 ∷ y) rest)

three_then : (c : ℕ) (x y z rest : List ℕ) → spaced ((c ∷ []) ∷ x ∷ y ∷ z ∷ []) ++ rest ≡ c ∷ 32 ∷ (x ++ (32 ∷ (y ++ (32 ∷ (z ++ rest)))))
three_then c x y z rest =
    ap (λ w. c ∷ 32 ∷ ((x ++ (32 ∷ (y ++ (32 ∷ w)))) ++ rest)) (append-nil z)
    ∙ ap (λ w. c ∷ 32 ∷ w) (append_assoc x (32 ∷ (y ++ (32 ∷ z))) rest ∙ ap (λ w. x ++ (32 ∷ w)) (append_assoc y (32 ∷ z) rest))

-- ---- claims and goals
-- the claim is a thesis's or a goal, as the test says, and its expressions fit
abbrev pub IsClaim : Bool → Claim → List ℕ → List ℕ → Type 0
IsClaim t c cs rest = (cs ≡ claim_text c ++ rest) × AllOfClaim Fits c × (is_thesis_claim c ≡ t)

module _ (t : Bool) (types : Expression → Expression → Claim) (terms : Expression → Expression → Expression → Claim)
    (types_good : (a b : Expression) → Fits a → Fits b → (claim_text (types a b) ≡ spaced (codes "E" ∷ expression_text a ∷ expression_text b ∷ [])) × AllOfClaim Fits (types a b) × (is_thesis_claim (types a b) ≡ t))
    (terms_good : (a b d : Expression) → Fits a → Fits b → Fits d → (claim_text (terms a b d) ≡ spaced (codes "e" ∷ expression_text a ∷ expression_text b ∷ expression_text d ∷ [])) × AllOfClaim Fits (terms a b d) × (is_thesis_claim (terms a b d) ≡ t)) where
  types_is : (c : Claim) (cs rest : List ℕ) → type_equation types cs ≡ Ok (c, rest) → IsClaim t c (69 ∷ cs) rest
  unfolding type_equation
  types_is c cs rest h =
      let p = in_turn (two cs) (λ p. pure (types p.0 p.1)) c rest h in
      let e = ok_ok (types p.0.0.0 p.0.0.1, p.0.1) (c, rest) p.2 in
      let f = two_is p.0.0 cs p.0.1 p.1 in
      let g = types_good p.0.0.0 p.0.0.1 f.1 f.2 in
      subst (λ c. IsClaim t c (69 ∷ cs) rest) (ap (λ x. x.0) e) (
        ap (λ x. 69 ∷ x) (f.0 ∙ ap (λ x. 32 ∷ (expression_text p.0.0.0 ++ (32 ∷ (expression_text p.0.0.1 ++ x.1)))) e)
            ∙ sym (two_then 69 (expression_text p.0.0.0) (expression_text p.0.0.1) rest) ∙ ap (λ x. x ++ rest) (sym g.0),
        g.1,
        g.2,
      )

  terms_is : (c : Claim) (cs rest : List ℕ) → term_equation terms cs ≡ Ok (c, rest) → IsClaim t c (101 ∷ cs) rest
  unfolding term_equation
  terms_is c cs rest h =
      let p = in_turn (three cs) (λ p. pure (terms p.0 p.1 p.2)) c rest h in
      let e = ok_ok (terms p.0.0.0 p.0.0.1 p.0.0.2, p.0.1) (c, rest) p.2 in
      let f = three_is p.0.0 cs p.0.1 p.1 in
      let g = terms_good p.0.0.0 p.0.0.1 p.0.0.2 f.1 f.2 f.3 in
      subst (λ c. IsClaim t c (101 ∷ cs) rest) (ap (λ x. x.0) e) (
        ap (λ x. 101 ∷ x) (f.0 ∙ ap (λ x. 32 ∷ (expression_text p.0.0.0 ++ (32 ∷ (expression_text p.0.0.1 ++ (32 ∷ (expression_text p.0.0.2 ++ x.1)))))) e)
            ∙ sym (three_then 101 (expression_text p.0.0.0) (expression_text p.0.0.1) (expression_text p.0.0.2) rest) ∙ ap (λ x. x ++ rest) (sym g.0),
        g.1,
        g.2,
      )

  pub equation_is : (c : Claim) (cs rest : List ℕ) → equation types terms cs ≡ Ok (c, rest) → IsClaim t c cs rest
  unfolding equation
  equation_is c cs rest h =
      let first : Outcome Claim = type_equation types (drop 1 cs) in
      let second : Outcome Claim = term_equation terms (drop 1 cs) in
      let third : Outcome Claim = Err Form in
      let later : Outcome Claim = if sees 101 cs then second else third in
      by_test (sees 69 cs)
      (λ y. subst (λ x. IsClaim t c x rest) (sym (sees_is 69 cs y)) (types_is c (drop 1 cs) rest (taken first later (sees 69 cs) y h)))
      (λ n. by_test (sees 101 cs)
      (λ y. subst (λ x. IsClaim t c x rest) (sym (sees_is 101 cs y)) (terms_is c (drop 1 cs) rest (taken second third (sees 101 cs) y (not_taken first later (sees 69 cs) n h))))
      (λ m. absurd (err_ok Form (c, rest) (not_taken second third (sees 101 cs) m (not_taken first later (sees 69 cs) n h)))))

  pub types_read : (a b : Expression) (rest : List ℕ) → Fits a → Fits b → sees_digit rest ≡ false → equation types terms (69 ∷ 32 ∷ (expression_text a ++ (32 ∷ (expression_text b ++ rest)))) ≡ Ok (types a b, rest)
  unfolding equation type_equation sees
  types_read a b rest f g stops = rw (two_read a b rest f g stops) refl

  pub terms_read : (a b d : Expression) (rest : List ℕ) → Fits a → Fits b → Fits d → sees_digit rest ≡ false
      → equation types terms (101 ∷ 32 ∷ (expression_text a ++ (32 ∷ (expression_text b ++ (32 ∷ (expression_text d ++ rest)))))) ≡ Ok (terms a b d, rest)
  unfolding equation term_equation sees
  terms_read a b d rest f g k stops = rw (three_read a b d rest f g k stops) refl

type_is : (c : Claim) (cs rest : List ℕ) → type_form cs ≡ Ok (c, rest) → IsClaim true c (84 ∷ cs) rest
unfolding type_form
type_is c cs rest h =
    let p = in_turn (one cs) (λ a. pure (is_type a)) c rest h in
    let e = ok_ok (is_type p.0.0, p.0.1) (c, rest) p.2 in
    let f = one_is p.0.0 cs p.0.1 p.1 in
    subst (λ c. IsClaim true c (84 ∷ cs) rest) (ap (λ x. x.0) e)
    (ap (λ x. 84 ∷ x) (f.0 ∙ ap (λ x. 32 ∷ (expression_text p.0.0 ++ x.1)) e) ∙ sym (one_then 84 (expression_text p.0.0) rest), f.1, refl)

term_is : (c : Claim) (cs rest : List ℕ) → term_form cs ≡ Ok (c, rest) → IsClaim true c (116 ∷ cs) rest
unfolding term_form
term_is c cs rest h =
    let p = in_turn (two cs) (λ p. pure (has_type p.0 p.1)) c rest h in
    let e = ok_ok (has_type p.0.0.0 p.0.0.1, p.0.1) (c, rest) p.2 in
    let f = two_is p.0.0 cs p.0.1 p.1 in
    subst (λ c. IsClaim true c (116 ∷ cs) rest) (ap (λ x. x.0) e) (
      ap (λ x. 116 ∷ x) (f.0 ∙ ap (λ x. 32 ∷ (expression_text p.0.0.0 ++ (32 ∷ (expression_text p.0.0.1 ++ x.1)))) e)
          ∙ sym (two_then 116 (expression_text p.0.0.0) (expression_text p.0.0.1) rest),
      (f.1, f.2),
      refl,
    )

wanted_is : (c : Claim) (cs rest : List ℕ) → term_wanted cs ≡ Ok (c, rest) → IsClaim false c (116 ∷ cs) rest
unfolding term_wanted
wanted_is c cs rest h =
    let p = in_turn (one cs) (λ a. pure (term_goal a)) c rest h in
    let e = ok_ok (term_goal p.0.0, p.0.1) (c, rest) p.2 in
    let f = one_is p.0.0 cs p.0.1 p.1 in
    subst (λ c. IsClaim false c (116 ∷ cs) rest) (ap (λ x. x.0) e)
    (ap (λ x. 116 ∷ x) (f.0 ∙ ap (λ x. 32 ∷ (expression_text p.0.0 ++ x.1)) e) ∙ sym (one_then 116 (expression_text p.0.0) rest), f.1, refl)

form_is : (c : Claim) (cs rest : List ℕ) → form cs ≡ Ok (c, rest) → IsClaim true c cs rest
unfolding form
form_is c cs rest h =
    let first : Outcome Claim = type_form (drop 1 cs) in
    let second : Outcome Claim = term_form (drop 1 cs) in
    let third : Outcome Claim = equation equal_types equal_terms cs in
    let later : Outcome Claim = if sees 116 cs then second else third in
    by_test (sees 84 cs)
    (λ y. subst (λ x. IsClaim true c x rest) (sym (sees_is 84 cs y)) (type_is c (drop 1 cs) rest (taken first later (sees 84 cs) y h)))
    (λ n. by_test (sees 116 cs)
    (λ y. subst (λ x. IsClaim true c x rest) (sym (sees_is 116 cs y)) (term_is c (drop 1 cs) rest (taken second third (sees 116 cs) y (not_taken first later (sees 84 cs) n h))))
    (λ m. equation_is true equal_types equal_terms (λ a b f g. (refl, (f, g), refl)) (λ a b d f g k. (refl, (f, g, k), refl)) c cs rest
    (not_taken second third (sees 116 cs) m (not_taken first later (sees 84 cs) n h))))

goal_is : (c : Claim) (cs rest : List ℕ) → goal_read cs ≡ Ok (c, rest) → IsClaim false c cs rest
unfolding goal_read
goal_is c cs rest h =
    let first : Outcome Claim = Ok (type_goal, drop 1 cs) in
    let second : Outcome Claim = term_wanted (drop 1 cs) in
    let third : Outcome Claim = equation type_equation_goal term_equation_goal cs in
    let later : Outcome Claim = if sees 116 cs then second else third in
    by_test (sees 84 cs)
    (λ y. let e = ok_ok (type_goal, drop 1 cs) (c, rest) (taken first later (sees 84 cs) y h) in
    subst (λ c. IsClaim false c cs rest) (ap (λ x. x.0) e) (sees_is 84 cs y ∙ ap (λ x. 84 ∷ x.1) e, tt, refl))
    (λ n. by_test (sees 116 cs)
    (λ y. subst (λ x. IsClaim false c x rest) (sym (sees_is 116 cs y)) (wanted_is c (drop 1 cs) rest (taken second third (sees 116 cs) y (not_taken first later (sees 84 cs) n h))))
    (λ m. equation_is false type_equation_goal term_equation_goal (λ a b f g. (refl, (f, g), refl)) (λ a b d f g k. (refl, (f, g, k), refl)) c cs rest
    (not_taken second third (sees 116 cs) m (not_taken first later (sees 84 cs) n h))))

form_read : (c : Claim) (rest : List ℕ) → AllOfClaim Fits c → is_thesis_claim c ≡ true → sees_digit rest ≡ false → form (claim_text c ++ rest) ≡ Ok (c, rest)
unfolding form type_form term_form sees
form_read (is_type A) rest f t stops = ap form (one_then 84 (expression_text A) rest) ∙ rw (one_read A rest f stops) refl
form_read (has_type s A) rest f t stops = ap form (two_then 116 (expression_text s) (expression_text A) rest) ∙ rw (two_read s A rest f.0 f.1 stops) refl
form_read (equal_types A B) rest f t stops = ap form (two_then 69 (expression_text A) (expression_text B) rest)
    ∙ types_read true equal_types equal_terms (λ a b f g. (refl, (f, g), refl)) (λ a b d f g k. (refl, (f, g, k), refl)) A B rest f.0 f.1 stops
form_read (equal_terms s u A) rest f t stops = ap form (three_then 101 (expression_text s) (expression_text u) (expression_text A) rest)
    ∙ terms_read true equal_types equal_terms (λ a b f g. (refl, (f, g), refl)) (λ a b d f g k. (refl, (f, g, k), refl)) s u A rest f.0 f.1 f.2 stops
form_read type_goal rest f t stops = absurd (false_true t)
form_read (term_goal A) rest f t stops = absurd (false_true t)
form_read (type_equation_goal A B) rest f t stops = absurd (false_true t)
form_read (term_equation_goal s u A) rest f t stops = absurd (false_true t)

goal_back : (c : Claim) (rest : List ℕ) → AllOfClaim Fits c → is_thesis_claim c ≡ false → sees_digit rest ≡ false → goal_read (claim_text c ++ rest) ≡ Ok (c, rest)
unfolding goal_read term_wanted sees
goal_back type_goal rest f t stops = refl
goal_back (term_goal A) rest f t stops = ap goal_read (one_then 116 (expression_text A) rest) ∙ rw (one_read A rest f stops) refl
goal_back (type_equation_goal A B) rest f t stops = ap goal_read (two_then 69 (expression_text A) (expression_text B) rest)
    ∙ types_read false type_equation_goal term_equation_goal (λ a b f g. (refl, (f, g), refl)) (λ a b d f g k. (refl, (f, g, k), refl)) A B rest f.0 f.1 stops
goal_back (term_equation_goal s u A) rest f t stops = ap goal_read (three_then 101 (expression_text s) (expression_text u) (expression_text A) rest)
    ∙ terms_read false type_equation_goal term_equation_goal (λ a b f g. (refl, (f, g), refl)) (λ a b d f g k. (refl, (f, g, k), refl)) s u A rest f.0 f.1 f.2 stops
goal_back (is_type A) rest f t stops = absurd (false_true (sym t))
goal_back (has_type s A) rest f t stops = absurd (false_true (sym t))
goal_back (equal_types A B) rest f t stops = absurd (false_true (sym t))
goal_back (equal_terms s u A) rest f t stops = absurd (false_true (sym t))

-- ---- domains
abbrev pub domains_text : List Expression → List ℕ
domains_text [] = []
domains_text (A ∷ As) = 123 ∷ (expression_text A ++ (125 ∷ domains_text As))

abbrev pub EachFits : List Expression → Type 0
EachFits [] = Unit {0}
EachFits (A ∷ As) = Fits A × EachFits As

domain_then : (A : Expression) (As : List Expression) (rest : List ℕ) → domains_text (A ∷ As) ++ rest ≡ 123 ∷ (expression_text A ++ (125 ∷ (domains_text As ++ rest)))
domain_then A As rest = ap (λ x. 123 ∷ x) (append_assoc (expression_text A) (125 ∷ domains_text As) rest)

over_text : (As : List Expression) (c : Claim) → statement_text (over As c) ≡ domains_text As ++ claim_text c
over_text [] c = refl
over_text (A ∷ As) c =
    ap (λ x. 123 ∷ x) (append_assoc (expression_text A) (125 ∷ []) (statement_text (over As c)) ∙ ap (λ x. expression_text A ++ (125 ∷ x)) (over_text As c))
    ∙ sym (domain_then A As (claim_text c))

domain_is : (A : Expression) (cs rest : List ℕ) → domain cs ≡ Ok (A, rest) → (cs ≡ expression_text A ++ (125 ∷ rest)) × Fits A
unfolding domain
domain_is A cs rest h =
    let p = in_turn (expression cs) (λ a. expect 125 >>= (λ _. pure a)) A rest h in
    let q = in_turn (expect 125 p.0.1) (λ _. pure p.0.0) A rest p.2 in
    let e = ok_ok (p.0.0, q.0.1) (A, rest) q.2 in
    let t = expression_is p.0.0 cs p.0.1 p.1 in
    subst (λ B. (cs ≡ expression_text B ++ (125 ∷ rest)) × Fits B) (ap (λ x. x.0) e)
    (t.0 ∙ ap (λ x. expression_text p.0.0 ++ x) (expected 125 p.0.1 q.0.1 q.1 ∙ ap (λ x. 125 ∷ x.1) e), (t.1, t.2))

domain_read : (A : Expression) (rest : List ℕ) → Fits A → domain (expression_text A ++ (125 ∷ rest)) ≡ Ok (A, rest)
unfolding domain expect sees
domain_read A rest f = rw (expression_read A (125 ∷ rest) f.0 f.1 refl) refl

abbrev DomainsFound : List Expression → List Expression → List ℕ → List ℕ → Type 0
DomainsFound found all cs rest = (As : List Expression) × (all ≡ found ++ As) × (cs ≡ domains_text As ++ rest) × EachFits As

domains_are : (n : ℕ) (found all : List Expression) (cs rest : List ℕ) → domains_from n found cs ≡ Ok (all, rest) → DomainsFound found all cs rest
unfolding domains_from
domains_are zero found all cs rest h = absurd (err_ok Form (all, rest) h)
domains_are (suc n) found all cs rest h =
    let go_on : Reader (List Expression) = domain >>= (λ a. domains_from n (found ++ a ∷ [])) in
    let stop : Reader (List Expression) = pure found in
    by_test (sees 123 cs)
    (λ y. let p = in_turn (domain (drop 1 cs)) (λ a. domains_from n (found ++ a ∷ [])) all rest (taken_both go_on stop (drop 1 cs) cs (sees 123 cs) y h) in
    let d = domain_is p.0.0 (drop 1 cs) p.0.1 p.1 in
    let f = domains_are n (found ++ p.0.0 ∷ []) all p.0.1 rest p.2 in (
      p.0.0 ∷ f.0,
      f.1 ∙ append_assoc found (p.0.0 ∷ []) f.0,
      sees_is 123 cs y ∙ ap (λ x. 123 ∷ x) (d.0 ∙ ap (λ x. expression_text p.0.0 ++ (125 ∷ x)) f.2) ∙ sym (domain_then p.0.0 f.0 rest),
      (d.1, f.3),
    ))
    (λ m. let e = ok_ok (found, cs) (all, rest) (not_taken_both go_on stop (drop 1 cs) cs (sees 123 cs) m h) in
    ([], sym (ap (λ x. x.0) e) ∙ sym (append-nil found), ap (λ x. x.1) e, tt))

domains_end : (k : ℕ) (found : List Expression) (cs : List ℕ) → sees 123 cs ≡ false → domains_from (suc k) found cs ≡ Ok (found, cs)
unfolding domains_from
domains_end k found cs s = rw s refl

domains_read : (n : ℕ) (found As : List Expression) (rest : List ℕ) → length As < n → EachFits As → sees 123 rest ≡ false → domains_from n found (domains_text As ++ rest) ≡ Ok (found ++ As, rest)
unfolding sees
domains_read zero found As rest few fits stops = absurd (omega (arith, few))
domains_read (suc k) found [] rest few fits stops = domains_end k found rest stops ∙ ap (λ x. Ok (x, rest)) (sym (append-nil found))
domains_read (suc k) found (A ∷ As) rest few fits stops =
    ap (domains_from (suc k) found) (domain_then A As rest)
    ∙ domains_on k found A (123 ∷ (expression_text A ++ (125 ∷ (domains_text As ++ rest)))) (domains_text As ++ rest) refl (domain_read A (domains_text As ++ rest) fits.0)
    ∙ domains_read k (found ++ A ∷ []) As rest (omega (arith, few)) fits.1 stops
    ∙ ap (λ xs. Ok (xs, rest)) (append_assoc found (A ∷ []) As)

-- ---- statements
fits_over : (k : ℕ) (As : List Expression) (c : Claim) → EachFits As → AllOfClaim Fits c → AllOfStatement (λ k e. IsSmall e × ItsNumbersFit e) k (over As c)
fits_over k [] c f g = g
fits_over k (A ∷ As) c f g = (f.0, fits_over (suc k) As c f.1 g)

thesis_over : (As : List Expression) (c : Claim) → is_thesis (over As c) ≡ is_thesis_claim c
thesis_over [] c = refl
thesis_over (A ∷ As) c = thesis_over As c

abbrev pub IsStatement : Bool → Statement → List ℕ → List ℕ → Type 0
IsStatement t x cs rest = (cs ≡ statement_text x ++ rest) × StatementFits x × (is_thesis x ≡ t)

statement_is : (t : Bool) (claim : Reader Claim) → ((c : Claim) (cs rest : List ℕ) → claim cs ≡ Ok (c, rest) → IsClaim t c cs rest)
    → (x : Statement) (cs rest : List ℕ) → statement claim cs ≡ Ok (x, rest) → IsStatement t x cs rest
unfolding statement
statement_is t claim is x cs rest h =
    let p = in_turn (domains_from (length cs) [] cs) (λ f. claim >>= (λ c. pure (over f c))) x rest h in
    let q = in_turn (claim p.0.1) (λ c. pure (over p.0.0 c)) x rest p.2 in
    let e = ok_ok (over p.0.0 q.0.0, q.0.1) (x, rest) q.2 in
    let f = domains_are (length cs) [] p.0.0 cs p.0.1 p.1 in
    let g = is q.0.0 p.0.1 q.0.1 q.1 in
    let same : over f.0 q.0.0 ≡ x = ap (λ As. over As q.0.0) (sym f.1) ∙ ap (λ y. y.0) e in
    let whole : cs ≡ statement_text (over f.0 q.0.0) ++ rest =
    f.2 ∙ ap (λ y. domains_text f.0 ++ y) (g.0 ∙ ap (λ y. claim_text q.0.0 ++ y.1) e) ∙ sym (append_assoc (domains_text f.0) (claim_text q.0.0) rest)
    ∙ ap (λ y. y ++ rest) (sym (over_text f.0 q.0.0)) in
    subst (λ y. IsStatement t y cs rest) same (whole, fits_over zero f.0 q.0.0 f.3 g.1, thesis_over f.0 q.0.0 ∙ g.2)

pub thesis_is : (x : Statement) (cs rest : List ℕ) → thesis cs ≡ Ok (x, rest) → IsStatement true x cs rest
thesis_is x cs rest h = statement_is true form form_is x cs rest h

pub boundary_is : (x : Statement) (cs rest : List ℕ) → boundary cs ≡ Ok (x, rest) → IsStatement false x cs rest
boundary_is x cs rest h = statement_is false goal_read goal_is x cs rest h

abbrev domains_of : Statement → List Expression
domains_of (plain c) = []
domains_of (abstracted A x) = A ∷ domains_of x

abbrev claim_of : Statement → Claim
claim_of (plain c) = c
claim_of (abstracted A x) = claim_of x

over_back : (x : Statement) → over (domains_of x) (claim_of x) ≡ x
over_back (plain c) = refl
over_back (abstracted A x) = ap (abstracted A) (over_back x)

domains_fit : (k : ℕ) (x : Statement) → AllOfStatement (λ k e. IsSmall e × ItsNumbersFit e) k x → EachFits (domains_of x)
domains_fit k (plain c) h = tt
domains_fit k (abstracted A x) h = (h.0, domains_fit (suc k) x h.1)

claim_fits : (k : ℕ) (x : Statement) → AllOfStatement (λ k e. IsSmall e × ItsNumbersFit e) k x → AllOfClaim Fits (claim_of x)
claim_fits k (plain c) h = h
claim_fits k (abstracted A x) h = claim_fits (suc k) x h.1

claim_thesis : (x : Statement) → is_thesis_claim (claim_of x) ≡ is_thesis x
claim_thesis (plain c) = refl
claim_thesis (abstracted A x) = claim_thesis x

no_brace : (c : Claim) (rest : List ℕ) → sees 123 (claim_text c ++ rest) ≡ false
unfolding sees
no_brace (is_type A) rest = refl
no_brace (has_type s A) rest = refl
no_brace (equal_types A B) rest = refl
no_brace (equal_terms s u A) rest = refl
no_brace type_goal rest = refl
no_brace (term_goal A) rest = refl
no_brace (type_equation_goal A B) rest = refl
no_brace (term_equation_goal s u A) rest = refl

claim_some : (c : Claim) (rest : List ℕ) → 1 ≤ length (claim_text c ++ rest)
claim_some (is_type A) rest = omega arith
claim_some (has_type s A) rest = omega arith
claim_some (equal_types A B) rest = omega arith
claim_some (equal_terms s u A) rest = omega arith
claim_some type_goal rest = omega arith
claim_some (term_goal A) rest = omega arith
claim_some (type_equation_goal A B) rest = omega arith
claim_some (term_equation_goal s u A) rest = omega arith

few_domains : (As : List Expression) (r : List ℕ) → 1 ≤ length r → length As < length (domains_text As ++ r)
few_domains [] r h = omega (arith, h)
few_domains (A ∷ As) r h =
    let l = few_domains As r h in
    let e : length (domains_text (A ∷ As) ++ r) ≡ length (123 ∷ (expression_text A ++ (125 ∷ (domains_text As ++ r)))) = ap length (domain_then A As r) in
    let m = length-append (expression_text A) (125 ∷ (domains_text As ++ r)) in
    omega (arith, l, e, m)

statement_turn : (claim : Reader Claim) (As : List Expression) (c : Claim) (cs us rest : List ℕ) → domains_from (length cs) [] cs ≡ Ok (As, us) → claim us ≡ Ok (c, rest)
    → statement claim cs ≡ Ok (over As c, rest)
unfolding statement
statement_turn claim As c cs us rest h k = rw (h, k) refl

statement_back : (claim : Reader Claim) (x : Statement) (rest : List ℕ) → StatementFits x → claim (claim_text (claim_of x) ++ rest) ≡ Ok (claim_of x, rest)
    → statement claim (statement_text x ++ rest) ≡ Ok (x, rest)
statement_back claim x rest fits k =
    let As = domains_of x in
    let c = claim_of x in
    let us = claim_text c ++ rest in
    let cs = domains_text As ++ us in
    let text : statement_text x ++ rest ≡ cs =
    ap (λ y. statement_text y ++ rest) (sym (over_back x)) ∙ ap (λ y. y ++ rest) (over_text As c) ∙ append_assoc (domains_text As) (claim_text c) rest in
    ap (statement claim) text
    ∙ statement_turn claim As c cs us rest (domains_read (length cs) [] As us (few_domains As us (claim_some c rest)) (domains_fit zero x fits) (no_brace c rest)) k
    ∙ ap (λ y. Ok (y, rest)) (over_back x)

pub thesis_back : (x : Statement) (rest : List ℕ) → StatementFits x → is_thesis x ≡ true → sees_digit rest ≡ false → thesis (statement_text x ++ rest) ≡ Ok (x, rest)
thesis_back x rest fits t stops = statement_back form x rest fits (form_read (claim_of x) rest (claim_fits zero x fits) (claim_thesis x ∙ t) stops)

pub boundary_back : (x : Statement) (rest : List ℕ) → StatementFits x → is_thesis x ≡ false → sees_digit rest ≡ false → boundary (statement_text x ++ rest) ≡ Ok (x, rest)
boundary_back x rest fits t stops = statement_back goal_read x rest fits (goal_back (claim_of x) rest (claim_fits zero x fits) (claim_thesis x ∙ t) stops)
