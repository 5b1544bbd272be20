-- Expressions: what is read is the text, and the text is read.
use Rattle.std.proofs.Common.{◌≡◌, ◌∙◌, sym, ap, refl, subst, ℕ, zero, suc, ◌≤◌, List, [], ◌∷◌, ◌++◌, length, map, drop, Ok, Err, Some, None, true, false, if◌then◌else◌, append_assoc, arith}
use lib.ListN.{length-append}
use Rattle.std.specs.Prelude.{codes}
use Rattle.std.specs.Fmt.{decimal}
use Rattle.ft_theory.specs.Expressions.{Expression, bound, free, symbol, meta, Arguments, no_arguments, with_body, dummy, Terms, no_terms, also}
use Rattle.ft_theory.specs.Small.{depth, depth_of_arguments, depth_of_terms, size, size_of_arguments, size_of_terms, NumbersFit, NumbersFitInArguments, NumbersFitInTerms, IsSmall, is_small}
use Rattle.ft_items.specs.Texts.{joined, expression_text, argument_texts, term_texts, NumberFits, ItsNumbersFit, ArgumentNumbersFit, TermNumbersFit}
use Rattle.ft_texts.proofs.Pieces.{wrapped}
use Rattle.ft_syntax.specs.Arguments.{Argument, list_of_arguments, as_arguments}
use Rattle.ft_syntax.specs.Laws.{arguments_listed}
use Rattle.ft_lines.specs.declared.fault.Fault.TheVariants.{Form}
use Rattle.ft_lines.specs.Reading.{Outcome, Reader, ◌>>=◌, and_then, pure, refuse, sees, sees_digit, passes, expect, number}
use Rattle.ft_lines.specs.Expressions.{in_parentheses, small, terms_of, argument, bound_variable, free_variable, symbol_applied, meta_applied, application, level, expression_within, expression}
use Rattle.ft_lines.proofs.Numbers.{number_is, number_read}
use Rattle.ft_items.proofs.Smallness.{small_true, true_small}
use Rattle.ft_common.proofs.Choices.{by_test, taken, not_taken}
use Rattle.ft_common.proofs.Results.{err_ok, ok_ok}
use Rattle.ft_lines.proofs.Chains.{in_turn, taken_both, not_taken_both, taken_reader, not_taken_reader, sees_is, expected, sees_none}
use Rattle.ft_lines.proofs.Listed.{enclosed, Each, in_parentheses_is, IsReadBack, AreReadBack, in_parentheses_read}

-- the text of an argument
abbrev pub argument_text : Argument → List ℕ
argument_text (n, Some e) = decimal n ++ codes "." ++ expression_text e
argument_text (n, None) = decimal n ++ codes ".*"

texts_of_arguments : (ps : List Argument) → argument_texts (as_arguments ps) ≡ map argument_text ps
texts_of_arguments [] = refl
texts_of_arguments ((n, Some e) ∷ ps) = ap (λ xs. argument_text (n, Some e) ∷ xs) (texts_of_arguments ps)
texts_of_arguments ((n, None) ∷ ps) = ap (λ xs. argument_text (n, None) ∷ xs) (texts_of_arguments ps)

texts_of_terms : (es : List Expression) → term_texts (terms_of es) ≡ map expression_text es
texts_of_terms [] = refl
texts_of_terms (e ∷ es) = ap (λ xs. expression_text e ∷ xs) (texts_of_terms es)

-- the text of an application, before what follows
symbol_then : (s : ℕ) (ps : List Argument) (rest : List ℕ) → expression_text (symbol s (as_arguments ps)) ++ rest ≡ 115 ∷ (decimal s ++ (40 ∷ (((joined (codes ",") (map argument_text ps)) ++ codes ")") ++ rest)))
symbol_then s ps rest =
    ap (λ xs. expression_text_with xs ++ rest) (texts_of_arguments ps)
    ∙ ap (λ z. 115 ∷ z) (wrapped (decimal s) (joined (codes ",") (map argument_text ps)) rest 40 41)
    ∙ ap (λ z. 115 ∷ (decimal s ++ (40 ∷ z))) (sym (append_assoc (joined (codes ",") (map argument_text ps)) (41 ∷ []) rest))
  where
    expression_text_with : List (List ℕ) → List ℕ
    expression_text_with xs = codes "s" ++ decimal s ++ codes "(" ++ joined (codes ",") xs ++ codes ")"

meta_then : (m : ℕ) (es : List Expression) (rest : List ℕ) → expression_text (meta m (terms_of es)) ++ rest ≡ 109 ∷ (decimal m ++ (40 ∷ (((joined (codes ",") (map expression_text es)) ++ codes ")") ++ rest)))
meta_then m es rest =
    ap (λ xs. expression_text_with xs ++ rest) (texts_of_terms es)
    ∙ ap (λ z. 109 ∷ z) (wrapped (decimal m) (joined (codes ",") (map expression_text es)) rest 40 41)
    ∙ ap (λ z. 109 ∷ (decimal m ++ (40 ∷ z))) (sym (append_assoc (joined (codes ",") (map expression_text es)) (41 ∷ []) rest))
  where
    expression_text_with : List (List ℕ) → List ℕ
    expression_text_with xs = codes "m" ++ decimal m ++ codes "(" ++ joined (codes ",") xs ++ codes ")"

body_then : (n : ℕ) (e : Expression) (rest : List ℕ) → argument_text (n, Some e) ++ rest ≡ decimal n ++ (46 ∷ (expression_text e ++ rest))
body_then n e rest = append_assoc (decimal n ++ (46 ∷ [])) (expression_text e) rest ∙ append_assoc (decimal n) (46 ∷ []) (expression_text e ++ rest)

dummy_then : (n : ℕ) (rest : List ℕ) → argument_text (n, None) ++ rest ≡ decimal n ++ (46 ∷ 42 ∷ rest)
dummy_then n rest = append_assoc (decimal n) (46 ∷ 42 ∷ []) rest

-- ---- what is read
abbrev ArgumentFits : Argument → Type 0
ArgumentFits (n, Some e) = NumberFits n × ItsNumbersFit e
ArgumentFits (n, None) = NumberFits n

abbrev pub IsText : Expression → List ℕ → List ℕ → Type 0
IsText e cs rest = (cs ≡ expression_text e ++ rest) × IsSmall e × ItsNumbersFit e

small_is : (x e : Expression) (cs rest : List ℕ) → small x cs ≡ Ok (e, rest) → (x ≡ e) × (cs ≡ rest) × IsSmall x
unfolding small
small_is x e cs rest h = by_test (is_small x)
    (λ y. let f = ok_ok (x, cs) (e, rest) (taken_reader (pure x) refuse cs (is_small x) y h) in (ap (λ p. p.0) f, ap (λ p. p.1) f, true_small x y))
    (λ n. absurd (err_ok Form (e, rest) (not_taken_reader (pure x) refuse cs (is_small x) n h)))

module _ (inner : Reader Expression) (is : (e : Expression) (cs rest : List ℕ) → inner cs ≡ Ok (e, rest) → IsText e cs rest) where
  argument_is : (a : Argument) (cs rest : List ℕ) → argument inner cs ≡ Ok (a, rest) → (cs ≡ argument_text a ++ rest) × ArgumentFits a
  unfolding argument
  argument_is a cs rest h =
      let tail : ℕ → Reader Argument = λ n. passes 42 >>= (λ star. if star then pure (n, None) else (inner >>= (λ e. pure (n, Some e)))) in
      let p = in_turn (number cs) (λ n. expect 46 >>= (λ _. tail n)) a rest h in
      let n = p.0.0 in
      let q = in_turn (expect 46 p.0.1) (λ _. tail n) a rest p.2 in
      let us = q.0.1 in
      let i = number_is n cs p.0.1 p.1 in
      let front : cs ≡ decimal n ++ (46 ∷ us) = i.0 ∙ ap (λ x. decimal n ++ x) (expected 46 p.0.1 us q.1) in
      let one : Reader Argument = pure (n, None) in
      let other : Reader Argument = inner >>= (λ e. pure (n, Some e)) in
      by_test (sees 42 us)
      (λ y. let e = ok_ok ((n, None), drop 1 us) (a, rest) (taken_both one other (drop 1 us) us (sees 42 us) y q.2) in
      subst (λ b. (cs ≡ argument_text b ++ rest) × ArgumentFits b) (ap (λ x. x.0) e)
      (front ∙ ap (λ x. decimal n ++ (46 ∷ x)) (sees_is 42 us y ∙ ap (λ x. 42 ∷ x.1) e) ∙ sym (dummy_then n rest), i.1))
      (λ m. let r = in_turn (inner us) (λ e. pure (n, Some e)) a rest (not_taken_both one other (drop 1 us) us (sees 42 us) m q.2) in
      let e = ok_ok ((n, Some r.0.0), r.0.1) (a, rest) r.2 in
      let t = is r.0.0 us r.0.1 r.1 in
      subst (λ b. (cs ≡ argument_text b ++ rest) × ArgumentFits b) (ap (λ x. x.0) e)
      (front ∙ ap (λ x. decimal n ++ (46 ∷ x)) (t.0 ∙ ap (λ x. expression_text r.0.0 ++ x.1) e) ∙ sym (body_then n r.0.0 rest), (i.1, t.2)))

  term_is : (e : Expression) (cs rest : List ℕ) → inner cs ≡ Ok (e, rest) → (cs ≡ expression_text e ++ rest) × ItsNumbersFit e
  term_is e cs rest h = let t = is e cs rest h in (t.0, t.2)

  arguments_fit : (ps : List Argument) → Each (argument inner) argument_text ArgumentFits argument_is ps → ArgumentNumbersFit (as_arguments ps)
  arguments_fit [] h = tt
  arguments_fit ((n, Some e) ∷ ps) h = (h.0.0, h.0.1, arguments_fit ps h.1)
  arguments_fit ((n, None) ∷ ps) h = (h.0, arguments_fit ps h.1)

  terms_fit : (es : List Expression) → Each inner expression_text ItsNumbersFit term_is es → TermNumbersFit (terms_of es)
  terms_fit [] h = tt
  terms_fit (e ∷ es) h = (h.0, terms_fit es h.1)

  bound_is : (e : Expression) (cs rest : List ℕ) → bound_variable cs ≡ Ok (e, rest) → IsText e (98 ∷ cs) rest
  unfolding bound_variable
  bound_is e cs rest h =
      let p = in_turn (number cs) (λ i. small (bound i)) e rest h in
      let i = number_is p.0.0 cs p.0.1 p.1 in
      let s = small_is (bound p.0.0) e p.0.1 rest p.2 in
      subst (λ x. IsText x (98 ∷ cs) rest) s.0 (ap (λ x. 98 ∷ x) (i.0 ∙ ap (λ x. decimal p.0.0 ++ x) s.1), s.2, i.1)

  free_is : (e : Expression) (cs rest : List ℕ) → free_variable cs ≡ Ok (e, rest) → IsText e (118 ∷ cs) rest
  unfolding free_variable
  free_is e cs rest h =
      let p = in_turn (number cs) (λ v. small (free v)) e rest h in
      let i = number_is p.0.0 cs p.0.1 p.1 in
      let s = small_is (free p.0.0) e p.0.1 rest p.2 in
      subst (λ x. IsText x (118 ∷ cs) rest) s.0 (ap (λ x. 118 ∷ x) (i.0 ∙ ap (λ x. decimal p.0.0 ++ x) s.1), s.2, i.1)

  symbol_is : (e : Expression) (cs rest : List ℕ) → symbol_applied inner cs ≡ Ok (e, rest) → IsText e (115 ∷ cs) rest
  unfolding symbol_applied
  symbol_is e cs rest h =
      let p = in_turn (number cs) (λ n. in_parentheses (argument inner) >>= (λ f. small (symbol n (as_arguments f)))) e rest h in
      let i = number_is p.0.0 cs p.0.1 p.1 in
      let q = in_turn (in_parentheses (argument inner) p.0.1) (λ f. small (symbol p.0.0 (as_arguments f))) e rest p.2 in
      let l = in_parentheses_is (argument inner) argument_text ArgumentFits argument_is q.0.0 p.0.1 q.0.1 q.1 in
      let s = small_is (symbol p.0.0 (as_arguments q.0.0)) e q.0.1 rest q.2 in
      let tail : List ℕ → List ℕ = λ x. 40 ∷ (enclosed (argument inner) argument_text q.0.0 ++ x) in
      let whole : cs ≡ decimal p.0.0 ++ tail rest = i.0 ∙ ap (λ x. decimal p.0.0 ++ x) (l.0 ∙ ap tail s.1) in
      subst (λ x. IsText x (115 ∷ cs) rest) s.0 (ap (λ x. 115 ∷ x) whole ∙ sym (symbol_then p.0.0 q.0.0 rest), s.2, (i.1, arguments_fit q.0.0 l.1))

  meta_is : (e : Expression) (cs rest : List ℕ) → meta_applied inner cs ≡ Ok (e, rest) → IsText e (109 ∷ cs) rest
  unfolding meta_applied
  meta_is e cs rest h =
      let p = in_turn (number cs) (λ n. in_parentheses inner >>= (λ f. small (meta n (terms_of f)))) e rest h in
      let i = number_is p.0.0 cs p.0.1 p.1 in
      let q = in_turn (in_parentheses inner p.0.1) (λ f. small (meta p.0.0 (terms_of f))) e rest p.2 in
      let l = in_parentheses_is inner expression_text ItsNumbersFit term_is q.0.0 p.0.1 q.0.1 q.1 in
      let s = small_is (meta p.0.0 (terms_of q.0.0)) e q.0.1 rest q.2 in
      let tail : List ℕ → List ℕ = λ x. 40 ∷ (enclosed inner expression_text q.0.0 ++ x) in
      let whole : cs ≡ decimal p.0.0 ++ tail rest = i.0 ∙ ap (λ x. decimal p.0.0 ++ x) (l.0 ∙ ap tail s.1) in
      subst (λ x. IsText x (109 ∷ cs) rest) s.0 (ap (λ x. 109 ∷ x) whole ∙ sym (meta_then p.0.0 q.0.0 rest), s.2, (i.1, terms_fit q.0.0 l.1))

  letter : (c : ℕ) (e : Expression) (cs rest : List ℕ) → sees c cs ≡ true → IsText e (c ∷ drop 1 cs) rest → IsText e cs rest
  letter c e cs rest y t = subst (λ x. IsText e x rest) (sym (sees_is c cs y)) t

  application_is : (e : Expression) (cs rest : List ℕ) → application inner cs ≡ Ok (e, rest) → IsText e cs rest
  unfolding application
  application_is e cs rest h =
      let first : Outcome Expression = symbol_applied inner (drop 1 cs) in
      let second : Outcome Expression = meta_applied inner (drop 1 cs) in
      let third : Outcome Expression = Err Form in
      let later : Outcome Expression = if sees 109 cs then second else third in
      by_test (sees 115 cs)
      (λ y. letter 115 e cs rest y (symbol_is e (drop 1 cs) rest (taken first later (sees 115 cs) y h)))
      (λ n. by_test (sees 109 cs)
      (λ y. letter 109 e cs rest y (meta_is e (drop 1 cs) rest (taken second third (sees 109 cs) y (not_taken first later (sees 115 cs) n h))))
      (λ m. absurd (err_ok Form (e, rest) (not_taken second third (sees 109 cs) m (not_taken first later (sees 115 cs) n h)))))

  level_is : (e : Expression) (cs rest : List ℕ) → level inner cs ≡ Ok (e, rest) → IsText e cs rest
  unfolding level
  level_is e cs rest h =
      let first : Outcome Expression = bound_variable (drop 1 cs) in
      let second : Outcome Expression = free_variable (drop 1 cs) in
      let third : Outcome Expression = application inner cs in
      let later : Outcome Expression = if sees 118 cs then second else third in
      by_test (sees 98 cs)
      (λ y. letter 98 e cs rest y (bound_is e (drop 1 cs) rest (taken first later (sees 98 cs) y h)))
      (λ n. by_test (sees 118 cs)
      (λ y. letter 118 e cs rest y (free_is e (drop 1 cs) rest (taken second third (sees 118 cs) y (not_taken first later (sees 98 cs) n h))))
      (λ m. application_is e cs rest (not_taken second third (sees 118 cs) m (not_taken first later (sees 98 cs) n h))))

within_is : (d : ℕ) (e : Expression) (cs rest : List ℕ) → expression_within d cs ≡ Ok (e, rest) → IsText e cs rest
unfolding expression_within
within_is zero e cs rest h = absurd (err_ok Form (e, rest) h)
within_is (suc d) e cs rest h = level_is (expression_within d) (within_is d) e cs rest h

pub expression_is : (e : Expression) (cs rest : List ℕ) → expression cs ≡ Ok (e, rest) → IsText e cs rest
expression_is e cs rest h = within_is 1000 e cs rest h

-- ---- the text is read
abbrev listed_terms : Terms → List Expression
listed_terms no_terms = []
listed_terms (also t a) = t ∷ listed_terms a

terms_listed : (a : Terms) → terms_of (listed_terms a) ≡ a
terms_listed no_terms = refl
terms_listed (also t a) = ap (also t) (terms_listed a)

depth_some : (e : Expression) → 1 ≤ depth e
depth_some (bound i) = omega arith
depth_some (free v) = omega arith
depth_some (symbol s a) = omega arith
depth_some (meta m a) = omega arith

text_some : (e : Expression) → 1 ≤ length (expression_text e)
text_some (bound i) = omega arith
text_some (free v) = omega arith
text_some (symbol s a) = omega arith
text_some (meta m a) = omega arith

-- a parenthesis or a star is not next
no_star : (e : Expression) (rest : List ℕ) → sees 42 (expression_text e ++ rest) ≡ false
unfolding sees
no_star (bound i) rest = refl
no_star (free v) rest = refl
no_star (symbol s a) rest = refl
no_star (meta m a) rest = refl

no_close : (e : Expression) (rest : List ℕ) → sees 41 (expression_text e ++ rest) ≡ false
unfolding sees
no_close (bound i) rest = refl
no_close (free v) rest = refl
no_close (symbol s a) rest = refl
no_close (meta m a) rest = refl

small_read : (e : Expression) (rest : List ℕ) → IsSmall e → small e rest ≡ Ok (e, rest)
unfolding small
small_read e rest h = rw (small_true e h) refl

module _ (inner : Reader Expression) where
  argument_body : (n : ℕ) (e : Expression) (cs us rest : List ℕ) → number cs ≡ Ok (n, 46 ∷ us) → sees 42 us ≡ false → inner us ≡ Ok (e, rest) → argument inner cs ≡ Ok ((n, Some e), rest)
  unfolding argument expect sees
  argument_body n e cs us rest h s k = rw (h, s, k) refl

  argument_dummy : (n : ℕ) (cs rest : List ℕ) → number cs ≡ Ok (n, 46 ∷ 42 ∷ rest) → argument inner cs ≡ Ok ((n, None), rest)
  unfolding argument expect sees
  argument_dummy n cs rest h = rw h refl

  body_back : (n : ℕ) (e : Expression) → NumberFits n → ((rest : List ℕ) → sees_digit rest ≡ false → inner (expression_text e ++ rest) ≡ Ok (e, rest))
      → IsReadBack (argument inner) argument_text (n, Some e)
  body_back n e fits k = record {
    read = λ rest stops. ap (argument inner) (body_then n e rest)
        ∙ argument_body n e (decimal n ++ (46 ∷ (expression_text e ++ rest))) (expression_text e ++ rest) rest
        (number_read n (46 ∷ (expression_text e ++ rest)) fits refl) (no_star e rest) (k rest stops);
    some = counts n e fits;
    opens = λ rest. ap (sees 41) (body_then n e rest) ∙ sees_none 41 n (46 ∷ (expression_text e ++ rest)) fits refl;
  }
    where
      counts : (n : ℕ) (e : Expression) → NumberFits n → 1 ≤ length (argument_text (n, Some e))
      counts n e fits =
          let l = length-append (decimal n ++ (46 ∷ [])) (expression_text e) in
          let t = text_some e in
          omega (arith, l, t)

  dummy_back : (n : ℕ) → NumberFits n → IsReadBack (argument inner) argument_text (n, None)
  dummy_back n fits = record {
    read = λ rest stops. ap (argument inner) (dummy_then n rest) ∙ argument_dummy n (decimal n ++ (46 ∷ 42 ∷ rest)) rest (number_read n (46 ∷ 42 ∷ rest) fits refl);
    some = counts n fits;
    opens = λ rest. ap (sees 41) (dummy_then n rest) ∙ sees_none 41 n (46 ∷ 42 ∷ rest) fits refl;
  }
    where
      counts : (n : ℕ) → NumberFits n → 1 ≤ length (argument_text (n, None))
      counts n fits =
          let l = length-append (decimal n) (46 ∷ 42 ∷ []) in
          omega (arith, l)

  term_back : (e : Expression) → ((rest : List ℕ) → sees_digit rest ≡ false → inner (expression_text e ++ rest) ≡ Ok (e, rest)) → IsReadBack inner expression_text e
  term_back e k = record { read = k; some = text_some e; opens = no_close e }

  -- a number, and items in parentheses
  symbol_read : (s : ℕ) (ps : List Argument) (cs us rest : List ℕ) → number cs ≡ Ok (s, us) → in_parentheses (argument inner) us ≡ Ok (ps, rest)
      → IsSmall (symbol s (as_arguments ps)) → symbol_applied inner cs ≡ Ok (symbol s (as_arguments ps), rest)
  unfolding symbol_applied
  symbol_read s ps cs us rest h k small' = rw (h, k) (small_read (symbol s (as_arguments ps)) rest small')

  meta_read : (m : ℕ) (es : List Expression) (cs us rest : List ℕ) → number cs ≡ Ok (m, us) → in_parentheses inner us ≡ Ok (es, rest)
      → IsSmall (meta m (terms_of es)) → meta_applied inner cs ≡ Ok (meta m (terms_of es), rest)
  unfolding meta_applied
  meta_read m es cs us rest h k small' = rw (h, k) (small_read (meta m (terms_of es)) rest small')

  level_symbol : (cs : List ℕ) → level inner (115 ∷ cs) ≡ symbol_applied inner cs
  unfolding level application sees
  level_symbol cs = refl

  level_meta : (cs : List ℕ) → level inner (109 ∷ cs) ≡ meta_applied inner cs
  unfolding level application sees
  level_meta cs = refl

  level_bound : (cs : List ℕ) → level inner (98 ∷ cs) ≡ bound_variable cs
  unfolding level sees
  level_bound cs = refl

  level_free : (cs : List ℕ) → level inner (118 ∷ cs) ≡ free_variable cs
  unfolding level sees
  level_free cs = refl

  application_read : (s : ℕ) (ps : List Argument) (rest : List ℕ) → NumberFits s → AreReadBack (argument inner) argument_text ps
      → IsSmall (symbol s (as_arguments ps)) → level inner (expression_text (symbol s (as_arguments ps)) ++ rest) ≡ Ok (symbol s (as_arguments ps), rest)
  application_read s ps rest fits back small' =
      let us = 40 ∷ (enclosed (argument inner) argument_text ps ++ rest) in
      ap (level inner) (symbol_then s ps rest) ∙ level_symbol (decimal s ++ us)
      ∙ symbol_read s ps (decimal s ++ us) us rest (number_read s us fits refl) (in_parentheses_read (argument inner) argument_text ps rest back) small'

  met_read : (m : ℕ) (es : List Expression) (rest : List ℕ) → NumberFits m → AreReadBack inner expression_text es
      → IsSmall (meta m (terms_of es)) → level inner (expression_text (meta m (terms_of es)) ++ rest) ≡ Ok (meta m (terms_of es), rest)
  met_read m es rest fits back small' =
      let us = 40 ∷ (enclosed inner expression_text es ++ rest) in
      ap (level inner) (meta_then m es rest) ∙ level_meta (decimal m ++ us)
      ∙ meta_read m es (decimal m ++ us) us rest (number_read m us fits refl) (in_parentheses_read inner expression_text es rest back) small'

variable_read : (mk : ℕ → Expression) (n : ℕ) (rest : List ℕ) → NumberFits n → sees_digit rest ≡ false → IsSmall (mk n)
    → and_then (number (decimal n ++ rest)) (λ i. small (mk i)) ≡ Ok (mk n, rest)
variable_read mk n rest fits stops s = ap (λ o. and_then o (λ i. small (mk i))) (number_read n rest fits stops) ∙ small_read (mk n) rest s

-- not deeper than d, and no larger than a small expression
pub record Fitting (d : ℕ) (e : Expression) : Type 0 where
  pub low : depth e ≤ d
  pub short : size e ≤ 65536
  pub numbers : NumbersFit e
  pub its : ItsNumbersFit e

fitting_small : (d : ℕ) (e : Expression) → d ≤ 1000 → Fitting d e → IsSmall e
fitting_small d e l f = record { kept = (omega (arith, l, f.low), f.short, f.numbers) }

mutual
  unfolding expression_within bound_variable free_variable

  within_read : (d : ℕ) (e : Expression) (rest : List ℕ) → d ≤ 1000 → Fitting d e → sees_digit rest ≡ false → expression_within d (expression_text e ++ rest) ≡ Ok (e, rest)
  within_read zero e rest l f stops = absurd (omega (arith, f.low, depth_some e))
  within_read (suc d) (bound i) rest l f stops =
      level_bound (expression_within d) (decimal i ++ rest) ∙ variable_read bound i rest f.its stops (fitting_small (suc d) (bound i) l f)
  within_read (suc d) (free v) rest l f stops =
      level_free (expression_within d) (decimal v ++ rest) ∙ variable_read free v rest f.its stops (fitting_small (suc d) (free v) l f)
  within_read (suc d) (symbol s a) rest l f stops =
      let same = arguments_listed a in
      let back = arguments_back d a (omega (arith, l)) (omega (arith, f.low)) (omega (arith, f.short)) f.numbers f.its.1 in
      sym (ap (λ b. level (expression_within d) (expression_text (symbol s b) ++ rest)) same)
      ∙ application_read (expression_within d) s (list_of_arguments a) rest f.its.0 back (subst (λ b. IsSmall (symbol s b)) (sym same) (fitting_small (suc d) (symbol s a) l f))
      ∙ ap (λ b. Ok (symbol s b, rest)) same
  within_read (suc d) (meta m a) rest l f stops =
      let same = terms_listed a in
      let back = terms_back d a (omega (arith, l)) (omega (arith, f.low)) (omega (arith, f.short)) f.numbers f.its.1 in
      sym (ap (λ b. level (expression_within d) (expression_text (meta m b) ++ rest)) same)
      ∙ met_read (expression_within d) m (listed_terms a) rest f.its.0 back (subst (λ b. IsSmall (meta m b)) (sym same) (fitting_small (suc d) (meta m a) l f))
      ∙ ap (λ b. Ok (meta m b, rest)) same

  arguments_back : (d : ℕ) (a : Arguments) → d ≤ 1000 → depth_of_arguments a ≤ d → size_of_arguments a ≤ 65535 → NumbersFitInArguments a → ArgumentNumbersFit a
      → AreReadBack (argument (expression_within d)) argument_text (list_of_arguments a)
  arguments_back d no_arguments l low short numbers its = tt
  arguments_back d (with_body n e a) l low short numbers its = (
    body_back (expression_within d) n e its.0
        (λ rest stops. within_read d e rest l (record { low = omega (arith, low); short = omega (arith, short); numbers = numbers.1; its = its.1 }) stops),
    arguments_back d a l (omega (arith, low)) (omega (arith, short)) numbers.2 its.2,
  )
  arguments_back d (dummy n a) l low short numbers its = (dummy_back (expression_within d) n its.0, arguments_back d a l low short numbers.1 its.1)

  terms_back : (d : ℕ) (a : Terms) → d ≤ 1000 → depth_of_terms a ≤ d → size_of_terms a ≤ 65535 → NumbersFitInTerms a → TermNumbersFit a
      → AreReadBack (expression_within d) expression_text (listed_terms a)
  terms_back d no_terms l low short numbers its = tt
  terms_back d (also t a) l low short numbers its = (
    term_back (expression_within d) t
        (λ rest stops. within_read d t rest l (record { low = omega (arith, low); short = omega (arith, short); numbers = numbers.0; its = its.0 }) stops),
    terms_back d a l (omega (arith, low)) (omega (arith, short)) numbers.1 its.1,
  )

pub expression_read : (e : Expression) (rest : List ℕ) → IsSmall e → ItsNumbersFit e → sees_digit rest ≡ false → expression (expression_text e ++ rest) ≡ Ok (e, rest)
expression_read e rest s its stops = within_read 1000 e rest (omega arith) (record { low = s.kept.0; short = s.kept.1; numbers = s.kept.2; its = its }) stops
