-- The characters of a text are plain ASCII, but for those of names. So what holds of these holds of all characters of a line.
use Rattle.std.proofs.Common.{◌≡◌, ℕ, suc, ◌≤◌, ◌<◌, Bool, true, false, List, [], ◌∷◌, ◌++◌, refl, arith}
use Rattle.std.specs.Prelude.{codes, map, cond, nat_lt, ◌&&◌}
use Rattle.std.specs.Fmt.{decimal}
use Rattle.std.specs.List.{flat_map}
use Rattle.std.proofs.lemmas.Bool.{ltb-true, and_parts}
use Rattle.ft_theory.specs.Expressions.{Expression, bound, free, symbol, meta, Arguments, no_arguments, with_body, dummy, Terms, no_terms, also}
use Rattle.ft_theory.specs.Statements.{Claim, is_type, has_type, equal_types, equal_terms, type_goal, term_goal, type_equation_goal, term_equation_goal, Statement, plain, abstracted, AllOfClaim, AllOfStatement}
use Rattle.ft_theory.specs.Small.{IsSmall}
use Rattle.ft_items.specs.Sets.{Atom, met, var}
use Rattle.ft_items.specs.Equal.{is_thesis}
use Rattle.ft_items.specs.Item.{Stated, Name, Entry, Item, variable, metavariable, rule, entry, shown as mark}
use Rattle.ft_items.specs.Texts.{joined, spaced, expression_text, argument_texts, term_texts, claim_text, statement_text, atom_text, set_text, Part, number, slash, part_text, written, step_text, line_text, NumberFits, EachNumberFits, ItsNumbersFit, ArgumentNumbersFit, TermNumbersFit, EachAtomFits, PartsFit, EntryFits, ItemFits}
use Rattle.ft_texts.proofs.Pieces.{Each, IsDigit, decimal_digits}
use Rattle.ft_texts.proofs.Steps.{shows, shown, word_shows}
use Rattle.ft_texts.proofs.Lines.{rule_texts}

-- the test for a text of plain ASCII: from the space to the tilde and one more
abbrev pub is_ascii_text : List ℕ → Bool
is_ascii_text [] = true
is_ascii_text (c ∷ cs) = (nat_lt 31 c && nat_lt c 128) && is_ascii_text cs

pub each_append : (P : ℕ → Type 0) (x y : List ℕ) → Each P x → Each P y → Each P (x ++ y)
each_append P [] y a b = b
each_append P (c ∷ x) y a b = (a.0, each_append P x y a.1 b)

module _ (P : ℕ → Type 0) (ascii : (c : ℕ) → 32 ≤ c → c < 128 → P c) where
  pub literal : (x : List ℕ) → is_ascii_text x ≡ true → Each P x
  literal [] h = tt
  literal (c ∷ cs) h =
      let k : ((nat_lt 31 c && nat_lt c 128) ≡ true) × (is_ascii_text cs ≡ true) = and_parts (nat_lt 31 c && nat_lt c 128) (is_ascii_text cs) h in
      let l : (nat_lt 31 c ≡ true) × (nat_lt c 128 ≡ true) = and_parts (nat_lt 31 c) (nat_lt c 128) k.0 in
      (ascii c (omega (arith, ltb-true 31 c l.0)) (ltb-true c 128 l.1), literal cs k.1)

  word_each : (x : List ℕ) → shows x ≡ true → Each P x
  word_each [] h = tt
  word_each (c ∷ cs) h = (ascii c (omega (arith, (shown c cs h).0)) (shown c cs h).1, word_each cs (shown c cs h).2)

  digits_each : (x : List ℕ) → Each IsDigit x → Each P x
  digits_each [] h = tt
  digits_each (c ∷ cs) h = (ascii c (omega (arith, h.0.0)) (omega (arith, h.0.1)), digits_each cs h.1)

  decimal_each : (n : ℕ) → NumberFits n → Each P (decimal n)
  decimal_each n h = digits_each (decimal n) (decimal_digits n h)

  -- each of these texts
  abbrev All : List (List ℕ) → Type 0
  All [] = Unit {0}
  All (x ∷ xs) = Each P x × All xs

  further_each : (s : List ℕ) (xs : List (List ℕ)) → Each P s → All xs → Each P (flat_map (λ y. s ++ y) xs)
  further_each s [] a h = tt
  further_each s (x ∷ xs) a h = each_append P (s ++ x) (flat_map (λ y. s ++ y) xs) (each_append P s x a h.0) (further_each s xs a h.1)

  joined_each : (s : List ℕ) (xs : List (List ℕ)) → Each P s → All xs → Each P (joined s xs)
  joined_each s [] a h = tt
  joined_each s (x ∷ xs) a h = each_append P x (flat_map (λ y. s ++ y) xs) h.0 (further_each s xs a h.1)

  spaced_each : (xs : List (List ℕ)) → All xs → Each P (spaced xs)
  spaced_each xs h = joined_each (codes " ") xs (literal (codes " ") refl) h

  -- a letter and a number
  lettered_each : (c n : ℕ) → P c → NumberFits n → Each P (c ∷ decimal n)
  lettered_each c n l h = (l, decimal_each n h)

  -- a letter, a number and a text in parentheses
  application_each : (c n : ℕ) (x : List ℕ) → P c → NumberFits n → Each P x → Each P ((((c ∷ decimal n) ++ (40 ∷ [])) ++ x) ++ (41 ∷ []))
  application_each c n x l h p = each_append P (((c ∷ decimal n) ++ (40 ∷ [])) ++ x) (codes ")")
      (each_append P ((c ∷ decimal n) ++ (40 ∷ [])) x (each_append P (c ∷ decimal n) (codes "(") (l, decimal_each n h) (literal (codes "(") refl)) p) (literal (codes ")") refl)

  mutual
    expression_each : (e : Expression) → ItsNumbersFit e → Each P (expression_text e)
    expression_each (bound i) h = (ascii 98 (omega arith) (omega arith), decimal_each i h)
    expression_each (free v) h = (ascii 118 (omega arith) (omega arith), decimal_each v h)
    expression_each (symbol s a) h = application_each 115 s (joined (codes ",") (argument_texts a)) (ascii 115 (omega arith) (omega arith)) h.0 (joined_each (codes ",") (argument_texts a) (literal (codes ",") refl) (arguments_each a h.1))
    expression_each (meta m a) h = application_each 109 m (joined (codes ",") (term_texts a)) (ascii 109 (omega arith) (omega arith)) h.0 (joined_each (codes ",") (term_texts a) (literal (codes ",") refl) (terms_each a h.1))

    arguments_each : (a : Arguments) → ArgumentNumbersFit a → All (argument_texts a)
    arguments_each no_arguments h = tt
    arguments_each (with_body n e a) h = (each_append P (decimal n ++ codes ".") (expression_text e) (each_append P (decimal n) (codes ".") (decimal_each n h.0) (literal (codes ".") refl)) (expression_each e h.1), arguments_each a h.2)
    arguments_each (dummy n a) h = (each_append P (decimal n) (codes ".*") (decimal_each n h.0) (literal (codes ".*") refl), arguments_each a h.1)

    terms_each : (a : Terms) → TermNumbersFit a → All (term_texts a)
    terms_each no_terms h = tt
    terms_each (also t a) h = (expression_each t h.0, terms_each a h.1)

  claim_each : (c : Claim) → AllOfClaim (λ e. IsSmall e × ItsNumbersFit e) c → Each P (claim_text c)
  claim_each (is_type A) h = spaced_each (codes "T" ∷ expression_text A ∷ []) (literal (codes "T") refl, (expression_each A h.1, tt))
  claim_each (has_type t A) h = spaced_each (codes "t" ∷ expression_text t ∷ expression_text A ∷ []) (literal (codes "t") refl, (expression_each t h.0.1, (expression_each A h.1.1, tt)))
  claim_each (equal_types A B) h = spaced_each (codes "E" ∷ expression_text A ∷ expression_text B ∷ []) (literal (codes "E") refl, (expression_each A h.0.1, (expression_each B h.1.1, tt)))
  claim_each (equal_terms s t A) h = spaced_each (codes "e" ∷ expression_text s ∷ expression_text t ∷ expression_text A ∷ []) (literal (codes "e") refl, (expression_each s h.0.1, (expression_each t h.1.1, (expression_each A h.2.1, tt))))
  claim_each type_goal h = literal (codes "T") refl
  claim_each (term_goal A) h = spaced_each (codes "t" ∷ expression_text A ∷ []) (literal (codes "t") refl, (expression_each A h.1, tt))
  claim_each (type_equation_goal A B) h = spaced_each (codes "E" ∷ expression_text A ∷ expression_text B ∷ []) (literal (codes "E") refl, (expression_each A h.0.1, (expression_each B h.1.1, tt)))
  claim_each (term_equation_goal s t A) h = spaced_each (codes "e" ∷ expression_text s ∷ expression_text t ∷ expression_text A ∷ []) (literal (codes "e") refl, (expression_each s h.0.1, (expression_each t h.1.1, (expression_each A h.2.1, tt))))

  statement_each : (k : ℕ) (x : Statement) → AllOfStatement (λ k e. IsSmall e × ItsNumbersFit e) k x → Each P (statement_text x)
  statement_each k (plain c) h = claim_each c h
  statement_each k (abstracted A x) h = each_append P (codes "{" ++ expression_text A ++ codes "}") (statement_text x)
      (each_append P (codes "{" ++ expression_text A) (codes "}") (each_append P (codes "{") (expression_text A) (literal (codes "{") refl) (expression_each A h.0.1)) (literal (codes "}") refl)) (statement_each (suc k) x h.1)

  atoms_each : (S : List Atom) → EachAtomFits S → All (map atom_text S)
  atoms_each [] h = tt
  atoms_each (met m ∷ S) h = ((ascii 109 (omega arith) (omega arith), decimal_each m h.0), atoms_each S h.1)
  atoms_each (var v ∷ S) h = ((ascii 118 (omega arith) (omega arith), decimal_each v h.0), atoms_each S h.1)

  set_each : (S : List Atom) → EachAtomFits S → Each P (set_text S)
  set_each S h = each_append P (codes "[" ++ joined (codes ",") (map atom_text S)) (codes "]")
      (each_append P (codes "[") (joined (codes ",") (map atom_text S)) (literal (codes "[") refl) (joined_each (codes ",") (map atom_text S) (literal (codes ",") refl) (atoms_each S h))) (literal (codes "]") refl)

  parts_each : (ps : List Part) → PartsFit ps → All (map part_text ps)
  parts_each [] h = tt
  parts_each (number n ∷ ps) h = (decimal_each n h.0, parts_each ps h.1)
  parts_each (slash ∷ ps) h = (literal (codes "/") refl, parts_each ps h)

  step_each : (s : Stated) → PartsFit (written s).1 → Each P (step_text s)
  step_each s h = spaced_each ((written s).0 ∷ map part_text (written s).1) (word_each (written s).0 (word_shows s), parts_each (written s).1 h)

  entry_each : (e : Entry) → EntryFits e → Each P (line_text (entry e))
  entry_each e h = go (is_thesis e.statement)
    where
      letter : (b : Bool) → Each P (cond b (codes "J") (codes "B"))
      letter true = literal (codes "J") refl
      letter false = literal (codes "B") refl

      go : (b : Bool) → Each P (spaced (cond b (codes "J") (codes "B") ∷ statement_text e.statement ∷ set_text e.set ∷ step_text e.step ∷ []))
      go b = spaced_each (cond b (codes "J") (codes "B") ∷ statement_text e.statement ∷ set_text e.set ∷ step_text e.step ∷ [])
          (letter b, (statement_each 0 e.statement h.statement, (set_each e.set h.set, (step_each e.step h.step, tt))))

  rule_each : (ms : List ℕ) (p : ℕ) → EachNumberFits ms → NumberFits p → All (rule_texts ms p)
  rule_each [] p a c = (literal (codes ";") refl, (decimal_each p c, tt))
  rule_each (m ∷ ms) p a c = (decimal_each m a.0, rule_each ms p a.1 c)

  -- each character of a line, where the names' characters are so
  pub line_each : (is_name : Name → Bool) → ((n : Name) → is_name n ≡ true → Each P n) → (i : Item) → ItemFits is_name i → Each P (line_text i)
  line_each N named (variable v n p) h = spaced_each (codes "V" ∷ decimal v ∷ n ∷ decimal p ∷ []) (literal (codes "V") refl, (decimal_each v h.0, (named n h.1, (decimal_each p h.2, tt))))
  line_each N named (metavariable n p) h = spaced_each (codes "M" ∷ n ∷ decimal p ∷ []) (literal (codes "M") refl, (named n h.0, (decimal_each p h.1, tt)))
  line_each N named (rule n ms p) h = spaced_each (codes "R" ∷ n ∷ rule_texts ms p) (literal (codes "R") refl, (named n h.0, rule_each ms p h.1 h.2))
  line_each N named (entry e) h = entry_each e h
  line_each N named (mark p) h = spaced_each (codes "W" ∷ decimal p ∷ []) (literal (codes "W") refl, (decimal_each p h, tt))
