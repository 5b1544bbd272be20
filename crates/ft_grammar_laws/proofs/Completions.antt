-- The tokens before one that is refused can be completed.
use Rattle.std.proofs.Common.{◌≡◌, ◌∙◌, sym, ap, refl, subst, ℕ, zero, suc, Bool, true, false, if◌then◌else◌, ◌&&◌, List, [], ◌∷◌, ◌++◌, length, drop, Ok, Err, Option, Some, None, append_assoc, append-nil, ◌⊎◌, inl, inr}
use Rattle.ft_base.specs.declared.word.Word.{Word}
use Rattle.ft_grammar.specs.declared.token.Mark.{Mark}
use Rattle.ft_grammar.specs.declared.token.Mark.TheVariants as m
use Rattle.ft_grammar.specs.declared.token.Kind.{Kind}
use Rattle.ft_grammar.specs.declared.token.Kind.TheVariants as kind
use Rattle.ft_grammar.specs.declared.token.Token.{Token}
use Rattle.ft_grammar.specs.declared.fault.SyntaxFault.{SyntaxFault}
use Rattle.ft_grammar.specs.Rules.{Rule, Part, Tree, AllOf, Is, give, name, number, word, mark, part, starting, sequence, either, either_by_two, unless, more, is_mark, named, numbered, worded}
use Rattle.ft_grammar.specs.Reading.{Outcome, Parser, and_then, read, more_from, start_of, kind_of, read_name, read_number, read_word, read_mark, value_or_refuse, refuse}
use Rattle.ft_grammar_laws.proofs.Cases.{same_left}
use Rattle.ft_grammar_laws.proofs.Sound.{eaten, PartsEat, IsSound, Proper, sound}

abbrev pub at_zero : Kind → Token
at_zero k = record { kind = k; start = 0; end = 0 }

is_the_mark : (v : Mark) → is_mark v (kind.Mark v) ≡ true
unfolding is_mark
is_the_mark m.LeftParen = refl
is_the_mark m.RightParen = refl
is_the_mark m.LeftBrace = refl
is_the_mark m.RightBrace = refl
is_the_mark m.Comma = refl
is_the_mark m.Colon = refl
is_the_mark m.DoubleColon = refl
is_the_mark m.Equals = refl
is_the_mark m.DoubleEquals = refl
is_the_mark m.Arrow = refl
is_the_mark m.Bar = refl
is_the_mark m.Star = refl
is_the_mark m.At = refl
is_the_mark m.Underscore = refl

starts_at_zero : (xs ys : List Token) → start_of xs ≡ 0 → start_of ys ≡ 0 → start_of (xs ++ ys) ≡ 0
starts_at_zero [] ys h g = g
starts_at_zero (x ∷ xs) ys h g = h

module _ (R : (p : Part) → Tree p → List Token → Type 0) where
  -- a value with its tokens, which stand at zero
  abbrev pub Sample : {A : Type 0} → (A → List Token → Type 0) → Type 0
  Sample {A = A} P = (a : A) × (xs : List Token) × (start_of xs ≡ 0) × P a xs

  -- where a rule has words or exceptions, one is given
  abbrev pub Sampled : {A : Type 0} → Rule A → Type 0
  Sampled (give a) = Unit {0}
  Sampled name = Unit {0}
  Sampled number = Unit {0}
  Sampled (word {A = A} value) = (v : Word) × (a : A) × (value v ≡ Some a)
  Sampled (mark m) = Unit {0}
  Sampled (part p) = Unit {0}
  Sampled (starting f) = (n : ℕ) → Sampled (f n)
  Sampled (sequence {B = B} r f) = Sampled r × ((b : B) → Sampled (f b))
  Sampled (either test r s) = Sampled r × Sampled s
  Sampled (either_by_two one two r s) = Sampled r × Sampled s
  Sampled (unless {A = A} test r) = Sampled r × Sample (Is R (unless test r))
  Sampled (more found test r) = Sampled r

  pub sample : PartsEat R → ((p : Part) → Sample (R p)) → {A : Type 0} (r : Rule A) → Proper r → Sampled r → Sample (Is R r)
  sample eat parts (give a) proper given = (a, [], refl, (refl, refl))
  sample eat parts name proper given =
      (record { name = 120 ∷ []; at = 0 }, at_zero (kind.Name (120 ∷ [])) ∷ [], refl, (at_zero (kind.Name (120 ∷ [])), refl, refl))
  sample eat parts number proper given = (0, at_zero (kind.Number 0) ∷ [], refl, (at_zero (kind.Number 0), refl, refl))
  sample eat parts (word value) proper given = (given.1, at_zero (kind.Word given.0) ∷ [], refl, (at_zero (kind.Word given.0), refl, given.2))
  sample eat parts (mark v) proper given = (tt, at_zero (kind.Mark v) ∷ [], refl, (at_zero (kind.Mark v), refl, is_the_mark v))
  sample eat parts (part p) proper given = parts p
  sample eat parts (starting f) proper given =
      let s = sample eat parts (f 0) (proper 0).1 (given 0) in
      begun_at (s.1) s.2 s.0 s.3 (eaten R eat (f 0) s.0 s.1 (proper 0).0 s.3)
    where
      begun_at : (xs : List Token) → start_of xs ≡ 0 → (a : _) → Is R (f 0) a xs → (xs ≡ [] → ⊥) → Sample (Is R (starting f))
      begun_at [] z a h some = absurd (some refl)
      begun_at (t ∷ ts) z a h some = (a, t ∷ ts, z, (t, ts, refl, subst (λ n. Is R (f n) a (t ∷ ts)) (sym z) h))
  sample eat parts (sequence r f) proper given =
      let s = sample eat parts r proper.0 given.0 in
      let u = sample eat parts (f s.0) (proper.1 s.0) (given.1 s.0) in
      (u.0, s.1 ++ u.1, starts_at_zero s.1 u.1 s.2 u.2, (s.0, s.1, u.1, refl, s.3, u.3))
  sample eat parts (either test r s) proper given = let u = sample eat parts s proper.1 given.1 in (u.0, u.1, u.2, inr u.3)
  sample eat parts (either_by_two one two r s) proper given = let u = sample eat parts s proper.1 given.1 in (u.0, u.1, u.2, inr u.3)
  sample eat parts (unless test r) proper given = given.1
  sample eat parts (more found test r) proper given = (found, [], refl, ([], sym (append-nil found), refl))

  -- the tokens before those that are left have a completion
  abbrev pub Completed : {A : Type 0} → (A → List Token → Type 0) → List Token → List Token → Type 0
  Completed {A = A} P ts left = (xs : List Token) × (ts ≡ xs ++ left) × (ys : List Token) × (a : A) × P a (xs ++ ys)

  abbrev pub CanComplete : {A : Type 0} → Parser A → (A → List Token → Type 0) → Type 0
  CanComplete p P = (ts left : List Token) (n : SyntaxFault) → p ts ≡ Err (n, left) → Completed P ts left

  no_err : {A : Type 0} (p : A × List Token) (e : SyntaxFault × List Token) → ◌≡◌ {A = Outcome A} (Ok p) (Err e) → ⊥
  no_err p e h = cc

  -- a sample where nothing was read
  at_once : {A : Type 0} (P : A → List Token → Type 0) (ts left : List Token) → ts ≡ left → Sample P → Completed P ts left
  at_once P ts left e s = ([], e, s.1, s.0, s.3)

  value_refused : {A : Type 0} (o : Option A) (ts left : List Token) (n : SyntaxFault) → value_or_refuse o ts ≡ Err (n, left) → ts ≡ left
  value_refused (Some a) ts left n h = absurd (no_err (a, drop 1 ts) (n, left) h)
  value_refused None ts left n h = same_left h

  mark_refused : (b : Bool) (ts left : List Token) (n : SyntaxFault) → ◌≡◌ {A = Outcome (Unit {0})} (if b then Ok (tt, drop 1 ts) else refuse ts) (Err (n, left)) → ts ≡ left
  mark_refused true ts left n h = absurd (no_err (tt, drop 1 ts) (n, left) h)
  mark_refused false ts left n h = same_left h

  module _ (parts : (p : Part) → Parser (Tree p)) where
    seq_completed : {A B : Type 0} (r : Rule B) (f : B → Rule A) (ts left : List Token) (n : SyntaxFault) → IsSound R (read parts r) (λ b. Is R r b) → CanComplete (read parts r) (λ b. Is R r b)
        → ((b : B) → Sample (λ a. Is R (f b) a)) → ((b : B) → CanComplete (read parts (f b)) (λ a. Is R (f b) a)) → (o : Outcome B) → read parts r ts ≡ o
        → and_then o (λ b. read parts (f b)) ≡ Err (n, left) → Completed (λ a. Is R (sequence r f) a) ts left
    seq_completed {A = A} {B = B} r f ts left n sounds first_one samples others (Err e) is h =
        let c = first_one ts left n (is ∙ refused e h) in
        let u = samples c.3 in
        (c.0, c.1, c.2 ++ u.1, u.0, (c.3, c.0 ++ c.2, u.1, sym (append_assoc c.0 c.2 u.1), c.4, u.3))
      where
        fault_of : Outcome A → SyntaxFault × List Token
        fault_of (Ok p) = e
        fault_of (Err g) = g

        refused : (e : SyntaxFault × List Token) → ◌≡◌ {A = Outcome A} (Err e) (Err (n, left)) → ◌≡◌ {A = Outcome B} (Err e) (Err (n, left))
        refused e h = ap (λ o. Err (fault_of o)) h
    seq_completed r f ts left n sounds first_one samples others (Ok q) is h =
        let front = sounds ts q.0 q.1 is in
        let c = others q.0 q.1 left n h in (
          front.0 ++ c.0,
          front.1 ∙ ap (λ us. front.0 ++ us) c.1 ∙ sym (append_assoc front.0 c.0 left),
          c.2,
          c.3,
          (q.0, front.0, c.0 ++ c.2, append_assoc front.0 c.0 c.2, front.2, c.4),
        )

    start_completed : {A : Type 0} (f : ℕ → Rule A) (ts left xs ys : List Token) (a : A) → Sample (λ b. Is R (starting f) b) → ts ≡ xs ++ left → Is R (f (start_of ts)) a (xs ++ ys)
        → Completed (λ b. Is R (starting f) b) ts left
    start_completed f ts left [] ys a s e h = at_once (λ b. Is R (starting f) b) ts left e s
    start_completed f ts left (x ∷ xs) ys a s e h = (x ∷ xs, e, ys, a, (x, xs ++ ys, refl, subst (λ n. Is R (f n) a (x ∷ (xs ++ ys))) (ap start_of e) h))

    unless_completed : {A : Type 0} (test : Kind → Bool) (r : Rule A) (ts left xs ys : List Token) (a : A) → Sample (λ b. Is R (unless test r) b) → ts ≡ xs ++ left
        → test (kind_of ts) ≡ false → Is R r a (xs ++ ys) → Completed (λ b. Is R (unless test r) b) ts left
    unless_completed test r ts left [] ys a s e is h = at_once (λ b. Is R (unless test r) b) ts left e s
    unless_completed test r ts left (x ∷ xs) ys a s e is h = (x ∷ xs, e, ys, a, (x, xs ++ ys, refl, ap (λ us. test (kind_of us)) (sym e) ∙ is, h))

    unless_by : {A : Type 0} (test : Kind → Bool) (r : Rule A) (ts left : List Token) (n : SyntaxFault) → Sample (λ b. Is R (unless test r) b) → CanComplete (read parts r) (λ b. Is R r b)
        → (b : Bool) → test (kind_of ts) ≡ b → (if b then refuse ts else read parts r ts) ≡ Err (n, left) → Completed (λ b. Is R (unless test r) b) ts left
    unless_by test r ts left n s each true is h = at_once (λ b. Is R (unless test r) b) ts left (same_left h) s
    unless_by test r ts left n s each false is h =
        let c = each ts left n h in
        unless_completed test r ts left c.0 c.2 c.3 s c.1 is c.4

    either_by : {A : Type 0} (P Q : A → List Token → Type 0) (p q : Parser A) (ts left : List Token) (n : SyntaxFault) → CanComplete p P → CanComplete q Q
        → (b : Bool) → (if b then p ts else q ts) ≡ Err (n, left) → Completed (λ a xs. P a xs ⊎ Q a xs) ts left
    either_by P Q p q ts left n one other true h = let c = one ts left n h in (c.0, c.1, c.2, c.3, inl c.4)
    either_by P Q p q ts left n one other false h = let c = other ts left n h in (c.0, c.1, c.2, c.3, inr c.4)

  more_completed : {A : Type 0} (P : A → List Token → Type 0) (test : Kind → Bool) (one : Parser A) → IsSound R one P → CanComplete one P
      → (k : ℕ) (found : List A) (ts left : List Token) (n : SyntaxFault) → more_from test one k found ts ≡ Err (n, left)
      → Completed (λ given xs. (bs : List A) × (given ≡ found ++ bs) × AllOf P bs xs) ts left
  unfolding more_from
  more_completed P test one sounds each zero found ts left n h = absurd (no_err (found, ts) (n, left) h)
  more_completed {A = A} P test one sounds each (suc k) found ts left n h = by_test (test (kind_of ts)) h (more_completed P test one sounds each k)
    where
      by_one : (o : Outcome A) → one ts ≡ o → and_then o (λ a. more_from test one k (found ++ a ∷ [])) ≡ Err (n, left)
          → ((sofar : List A) (us left : List Token) (n : SyntaxFault) → more_from test one k sofar us ≡ Err (n, left)
          → Completed (λ given xs. (bs : List A) × (given ≡ sofar ++ bs) × AllOf P bs xs) us left)
          → Completed (λ given xs. (bs : List A) × (given ≡ found ++ bs) × AllOf P bs xs) ts left
      by_one (Err e) is h others =
          let c = each ts left n (is ∙ refused e h) in
          (c.0, c.1, c.2, found ++ c.3 ∷ [], (c.3 ∷ [], refl, (c.0 ++ c.2, [], sym (append-nil (c.0 ++ c.2)), c.4, refl)))
        where
          fault_of : Outcome (List A) → SyntaxFault × List Token
          fault_of (Ok p) = e
          fault_of (Err g) = g

          refused : (e : SyntaxFault × List Token) → ◌≡◌ {A = Outcome (List A)} (Err e) (Err (n, left)) → ◌≡◌ {A = Outcome A} (Err e) (Err (n, left))
          refused e h = ap (λ o. Err (fault_of o)) h
      by_one (Ok q) is h others =
          let front = sounds ts q.0 q.1 is in
          let c = others (found ++ q.0 ∷ []) q.1 left n h in (
            front.0 ++ c.0,
            front.1 ∙ ap (λ us. front.0 ++ us) c.1 ∙ sym (append_assoc front.0 c.0 left),
            c.2,
            c.3,
            (q.0 ∷ c.4.0, c.4.1 ∙ append_assoc found (q.0 ∷ []) c.4.0, (front.0, c.0 ++ c.2, append_assoc front.0 c.0 c.2, front.2, c.4.2)),
          )

      by_test : (b : Bool) → (if b then and_then (one ts) (λ a. more_from test one k (found ++ a ∷ [])) else Ok (found, ts)) ≡ Err (n, left)
          → ((sofar : List A) (us left : List Token) (n : SyntaxFault) → more_from test one k sofar us ≡ Err (n, left)
          → Completed (λ given xs. (bs : List A) × (given ≡ sofar ++ bs) × AllOf P bs xs) us left)
          → Completed (λ given xs. (bs : List A) × (given ≡ found ++ bs) × AllOf P bs xs) ts left
      by_test true h others = by_one (one ts) refl h others
      by_test false h others = absurd (no_err (found, ts) (n, left) h)

  module _ (parts : (p : Part) → Parser (Tree p)) where
    pub complete : PartsEat R → ((p : Part) → Sample (λ a. R p a)) → ((p : Part) → IsSound R (parts p) (λ a. R p a)) → ((p : Part) → CanComplete (parts p) (λ a. R p a))
        → {A : Type 0} (r : Rule A) → Proper r → Sampled r → CanComplete (read parts r) (λ a. Is R r a)
    unfolding read_name read_number read_word read_mark
    complete eat samples sounds each (give a) proper given ts left n h = absurd (no_err (a, ts) (n, left) h)
    complete eat samples sounds each name proper given ts left n h =
        at_once (λ a. Is R name a) ts left (value_refused (named (start_of ts) (kind_of ts)) ts left n h) (sample eat samples name proper given)
    complete eat samples sounds each number proper given ts left n h =
        at_once (λ a. Is R number a) ts left (value_refused (numbered (kind_of ts)) ts left n h) (sample eat samples number proper given)
    complete eat samples sounds each (word value) proper given ts left n h =
        at_once (λ a. Is R (word value) a) ts left (value_refused (worded value (kind_of ts)) ts left n h) (sample eat samples (word value) proper given)
    complete eat samples sounds each (mark v) proper given ts left n h =
        at_once (λ a. Is R (mark v) a) ts left (mark_refused (is_mark v (kind_of ts)) ts left n h) (sample eat samples (mark v) proper given)
    complete eat samples sounds each (part p) proper given ts left n h = each p ts left n h
    complete eat samples sounds each (starting f) proper given ts left n h =
        let c = complete eat samples sounds each (f (start_of ts)) (proper (start_of ts)).1 (given (start_of ts)) ts left n h in
        start_completed parts f ts left c.0 c.2 c.3 (sample eat samples (starting f) proper given) c.1 c.4
    complete eat samples sounds each (sequence r f) proper given ts left n h =
        seq_completed parts r f ts left n (sound R parts eat sounds r proper.0) (complete eat samples sounds each r proper.0 given.0)
        (λ b. sample eat samples (f b) (proper.1 b) (given.1 b)) (λ b. complete eat samples sounds each (f b) (proper.1 b) (given.1 b)) (read parts r ts) refl h
    complete eat samples sounds each (either test r s) proper given ts left n h =
        either_by parts (λ a. Is R r a) (λ a. Is R s a) (read parts r) (read parts s) ts left n (complete eat samples sounds each r proper.0 given.0)
        (complete eat samples sounds each s proper.1 given.1) (test (kind_of ts)) h
    complete eat samples sounds each (either_by_two one two r s) proper given ts left n h =
        either_by parts (λ a. Is R r a) (λ a. Is R s a) (read parts r) (read parts s) ts left n (complete eat samples sounds each r proper.0 given.0)
        (complete eat samples sounds each s proper.1 given.1) (one (kind_of ts) && two (kind_of (drop 1 ts))) h
    complete eat samples sounds each (unless test r) proper given ts left n h =
        unless_by parts test r ts left n given.1 (complete eat samples sounds each r proper.1 given.0) (test (kind_of ts)) refl h
    complete eat samples sounds each (more found test r) proper given ts left n h =
        more_completed (λ b. Is R r b) test (read parts r) (sound R parts eat sounds r proper.1) (complete eat samples sounds each r proper.1 given) (length ts) found ts left n h

-- what nests less is in the grammar also where more nesting is allowed
all_grow : {A : Type 0} (P Q : A → List Token → Type 0) → ((a : A) (xs : List Token) → P a xs → Q a xs) → (bs : List A) (xs : List Token) → AllOf P bs xs → AllOf Q bs xs
all_grow P Q each [] xs h = h
all_grow P Q each (b ∷ bs) xs h = (h.0, h.1, h.2, each b h.0 h.3, all_grow P Q each bs h.1 h.4)

pub grow : (R S : (p : Part) → Tree p → List Token → Type 0) → ((p : Part) (a : Tree p) (xs : List Token) → R p a xs → S p a xs)
    → {A : Type 0} (r : Rule A) (a : A) (xs : List Token) → Is R r a xs → Is S r a xs
grow R S each (give b) a xs h = h
grow R S each name a xs h = h
grow R S each number a xs h = h
grow R S each (word value) a xs h = h
grow R S each (mark m) a xs h = h
grow R S each (part p) a xs h = each p a xs h
grow R S each (starting f) a xs h = (h.0, h.1, h.2, grow R S each (f h.0.start) a xs h.3)
grow R S each (sequence r f) a xs h = (h.0, h.1, h.2, h.3, grow R S each r h.0 h.1 h.4, grow R S each (f h.0) a h.2 h.5)
grow R S each (either test r s) a xs (inl h) = inl (grow R S each r a xs h)
grow R S each (either test r s) a xs (inr h) = inr (grow R S each s a xs h)
grow R S each (either_by_two one two r s) a xs (inl h) = inl (grow R S each r a xs h)
grow R S each (either_by_two one two r s) a xs (inr h) = inr (grow R S each s a xs h)
grow R S each (unless test r) a xs h = (h.0, h.1, h.2, h.3, grow R S each r a xs h.4)
grow R S each (more found test r) a xs h = (h.0, h.1, all_grow (λ b. Is R r b) (λ b. Is S r b) (grow R S each r) h.0 xs h.2)
