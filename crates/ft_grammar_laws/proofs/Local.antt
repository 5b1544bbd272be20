-- Where reading stops, nothing that follows the next token counts.
use Rattle.std.proofs.Common.{◌≡◌, ◌∙◌, sym, ap, refl, subst, ℕ, zero, suc, ◌≤◌, Bool, true, false, if◌then◌else◌, ◌&&◌, List, [], ◌∷◌, ◌++◌, length, Ok, Err, Option, Some, None, drop, append_assoc, arith}
use Rattle.std.proofs.lemmas.List.{length-append}
use Rattle.ft_common.proofs.Booleans.{false_true}
use Rattle.ft_grammar.specs.declared.token.Mark.{Mark}
use Rattle.ft_grammar.specs.declared.token.Kind.{Kind}
use Rattle.ft_grammar.specs.declared.token.Kind.TheVariants as kind
use Rattle.ft_grammar.specs.declared.token.Token.{Token}
use Rattle.ft_grammar.specs.declared.fault.SyntaxFault.TheVariants.{Unexpected, TooNested}
use Rattle.ft_grammar.specs.Rules.{Rule, Part, Tree, give, name, number, word, mark, part, starting, sequence, either, either_by_two, unless, more, is_mark, named, numbered, worded}
use Rattle.ft_grammar.specs.Reading.{Outcome, Parser, and_then, read, more_from, start_of, kind_of, read_name, read_number, read_word, read_mark, value_or_refuse, refuse, too_nested}

-- the next token is the same
abbrev pub SameNext : List Token → List Token → Type 0
SameNext [] [] = Unit {0}
SameNext [] (u ∷ us) = ⊥
SameNext (t ∷ ts) [] = ⊥
SameNext (t ∷ ts) (u ∷ us) = t ≡ u

abbrev pub left_of : {A : Type 0} → Outcome A → List Token
left_of (Ok p) = p.1
left_of (Err e) = e.1

abbrev pub with_left : {A : Type 0} → Outcome A → List Token → Outcome A
with_left (Ok p) rest = Ok (p.0, rest)
with_left (Err e) rest = Err (e.0, rest)

-- after what was read other tokens may stand, where the next one is the same
abbrev pub StopsAt : {A : Type 0} → Parser A → List Token → Outcome A → Type 0
StopsAt p ts o = (xs : List Token) × (ts ≡ xs ++ left_of o) × ((rest : List Token) → SameNext (left_of o) rest → p (xs ++ rest) ≡ with_left o rest)

abbrev pub IsLocal : {A : Type 0} → Parser A → Type 0
IsLocal p = (ts : List Token) → StopsAt p ts (p ts)

pub same_kind : (ts us : List Token) → SameNext ts us → kind_of us ≡ kind_of ts
same_kind [] [] h = refl
same_kind [] (u ∷ us) h = absurd h
same_kind (t ∷ ts) [] h = absurd h
same_kind (t ∷ ts) (u ∷ us) h = ap (λ x. x.kind) (sym h)

pub same_start : (ts us : List Token) → SameNext ts us → start_of us ≡ start_of ts
same_start [] [] h = refl
same_start [] (u ∷ us) h = absurd h
same_start (t ∷ ts) [] h = absurd h
same_start (t ∷ ts) (u ∷ us) h = ap (λ x. x.start) (sym h)

pub same_after : (xs ts us : List Token) → SameNext ts us → SameNext (xs ++ ts) (xs ++ us)
same_after [] ts us h = h
same_after (x ∷ xs) ts us h = refl

-- what starts as the tokens do, up to where reading stops
moved : (ts xs left rest : List Token) → ts ≡ xs ++ left → SameNext left rest → SameNext ts (xs ++ rest)
moved ts xs left rest e same = subst (λ us. SameNext us (xs ++ rest)) (sym e) (same_after xs left rest same)

only_end : (rest : List Token) → SameNext [] rest → rest ≡ []
only_end [] h = refl
only_end (u ∷ us) h = absurd h

-- one token with a value, or none
abbrev of_value : {A : Type 0} → (ℕ → Kind → Option A) → Parser A
of_value value = λ ts. value_or_refuse (value (start_of ts) (kind_of ts)) ts

value_stops : {A : Type 0} (value : ℕ → Kind → Option A) (ts : List Token) (o : Option A) → value (start_of ts) (kind_of ts) ≡ o → StopsAt (of_value value) ts (value_or_refuse o ts)
value_stops value [] (Some a) is =
    ([], refl, λ rest same. ap (of_value value) (only_end rest same) ∙ ap (λ o. value_or_refuse o []) is ∙ ap (λ us. Ok (a, us)) (sym (only_end rest same)))
value_stops value (t ∷ ts) (Some a) is = (t ∷ [], refl, λ rest same. ap (λ o. value_or_refuse o (t ∷ rest)) is)
value_stops value ts None is = (
  [],
  refl,
  λ rest same.
      ap (λ n. value_or_refuse (value n (kind_of rest)) rest) (same_start ts rest same)
      ∙ ap (λ k. value_or_refuse (value (start_of ts) k) rest) (same_kind ts rest same)
      ∙ ap (λ o. value_or_refuse o rest) is
      ∙ ap (λ n. Err (Unexpected n, rest)) (same_start ts rest same),
)

value_local : {A : Type 0} (value : ℕ → Kind → Option A) → IsLocal (of_value value)
value_local value ts = value_stops value ts (value (start_of ts) (kind_of ts)) refl

-- a choice by the next token
choice_stops : {A : Type 0} (test : Kind → Bool) (p q : Parser A) (ts : List Token) → StopsAt p ts (p ts) → StopsAt q ts (q ts) → (b : Bool) → test (kind_of ts) ≡ b
    → StopsAt (λ us. if test (kind_of us) then p us else q us) ts (if b then p ts else q ts)
choice_stops test p q ts hp hq true is = (
  hp.0,
  hp.1,
  λ rest same.
      ap (λ b. if b then p (hp.0 ++ rest) else q (hp.0 ++ rest)) (ap test (same_kind ts (hp.0 ++ rest) (moved ts hp.0 (left_of (p ts)) rest hp.1 same)) ∙ is)
      ∙ hp.2 rest same,
)
choice_stops test p q ts hp hq false is = (
  hq.0,
  hq.1,
  λ rest same.
      ap (λ b. if b then p (hq.0 ++ rest) else q (hq.0 ++ rest)) (ap test (same_kind ts (hq.0 ++ rest) (moved ts hq.0 (left_of (q ts)) rest hq.1 same)) ∙ is)
      ∙ hq.2 rest same,
)

-- one after the other
then_stops : {A B : Type 0} (p : Parser B) (k : B → Parser A) (ts : List Token) (o : Outcome B) → p ts ≡ o → StopsAt p ts o
    → ((b : B) (mid : List Token) → p ts ≡ Ok (b, mid) → StopsAt (k b) mid (k b mid)) → StopsAt (λ us. and_then (p us) k) ts (and_then o k)
then_stops p k ts (Err e) is h g = (h.0, h.1, λ rest same. ap (λ o. and_then o k) (h.2 rest same))
then_stops p k ts (Ok q) is h g =
    let c = g q.0 q.1 is in (
      h.0 ++ c.0,
      h.1 ∙ ap (λ us. h.0 ++ us) c.1 ∙ sym (append_assoc h.0 c.0 (left_of (k q.0 q.1))),
      λ rest same.
          ap (λ us. and_then (p us) k) (append_assoc h.0 c.0 rest)
          ∙ ap (λ o. and_then o k) (h.2 (c.0 ++ rest) (moved q.1 c.0 (left_of (k q.0 q.1)) rest c.1 same))
          ∙ c.2 rest same,
    )

refuse_local : {A : Type 0} → IsLocal {A = A} refuse
refuse_local ts = ([], refl, λ rest same. ap (λ n. Err (Unexpected n, rest)) (same_start ts rest same))

pub nested_local : {A : Type 0} → IsLocal {A = A} too_nested
nested_local ts = ([], refl, λ rest same. ap (λ n. Err (TooNested n, rest)) (same_start ts rest same))

mark_stops : (m : Mark) (ts : List Token) (b : Bool) → is_mark m (kind_of ts) ≡ b → StopsAt (read_mark m) ts (if b then Ok (tt, drop 1 ts) else refuse ts)
unfolding read_mark refuse_local
mark_stops m [] true is =
    ([], refl, λ rest same. ap (read_mark m) (only_end rest same) ∙ ap (λ b. if b then Ok (tt, []) else refuse []) is ∙ ap (λ us. Ok (tt, us)) (sym (only_end rest same)))
mark_stops m (t ∷ ts) true is = (t ∷ [], refl, λ rest same. ap (λ b. if b then Ok (tt, rest) else refuse (t ∷ rest)) is)
mark_stops m ts false is =
    ([], refl, λ rest same. ap (λ b. if b then Ok (tt, drop 1 rest) else refuse rest) (ap (is_mark m) (same_kind ts rest same) ∙ is) ∙ (refuse_local ts).2 rest same)

mark_local : (m : Mark) → IsLocal (read_mark m)
unfolding read_mark
mark_local m ts = mark_stops m ts (is_mark m (kind_of ts)) refl

-- each value takes a token
abbrev pub Takes : {A : Type 0} → Parser A → Type 0
Takes {A = A} one = (ts : List Token) (a : A) (rest : List Token) → one ts ≡ Ok (a, rest) → suc (length rest) ≤ length ts

some_length : (t : Token) (ts : List Token) (n : ℕ) → length (t ∷ ts) ≤ suc n → length ts ≤ n
some_length t ts n h = let l : length (t ∷ ts) ≡ suc (length ts) = refl in omega (arith, l, h)

no_length : (t : Token) (ts : List Token) → length (t ∷ ts) ≤ 0 → ⊥
no_length t ts h = let l : length (t ∷ ts) ≡ suc (length ts) = refl in omega (arith, l, h)

-- with as many turns as tokens, the number of turns does not count
turns : {A : Type 0} (test : Kind → Bool) (one : Parser A) → test kind.End ≡ false → Takes one
    → (n m : ℕ) (found : List A) (ts : List Token) → length ts ≤ n → length ts ≤ m → more_from test one n found ts ≡ more_from test one m found ts
unfolding more_from
turns test one end less zero zero found ts few_n few_m = refl
turns test one end less zero (suc m) found [] few_n few_m =
    sym (ap (λ b. if b then and_then (one []) (λ a. more_from test one m (found ++ a ∷ [])) else Ok (found, [])) end)
turns test one end less zero (suc m) found (t ∷ ts) few_n few_m = absurd (no_length t ts few_n)
turns test one end less (suc n) zero found [] few_n few_m =
    ap (λ b. if b then and_then (one []) (λ a. more_from test one n (found ++ a ∷ [])) else Ok (found, [])) end
turns test one end less (suc n) zero found (t ∷ ts) few_n few_m = absurd (no_length t ts few_m)
turns {A = A} test one end less (suc n) (suc m) found ts few_n few_m =
    ap (λ x. if test (kind_of ts) then x else Ok (found, ts)) (inner (one ts) refl (turns test one end less n m))
  where
    inner : (o : Outcome A) → one ts ≡ o
        → ((found : List A) (us : List Token) → length us ≤ n → length us ≤ m → more_from test one n found us ≡ more_from test one m found us)
        → and_then o (λ a. more_from test one n (found ++ a ∷ [])) ≡ and_then o (λ a. more_from test one m (found ++ a ∷ []))
    inner (Err e) is others = refl
    inner (Ok q) is others =
        let l = less ts q.0 q.1 is in
        others (found ++ q.0 ∷ []) q.1 (omega (arith, l, few_n)) (omega (arith, l, few_m))

same_stops : {A : Type 0} (p q : Parser A) → ((us : List Token) → p us ≡ q us) → (ts : List Token) → StopsAt q ts (q ts) → StopsAt p ts (p ts)
same_stops p q same ts h = subst (λ o. StopsAt p ts o) (sym (same ts)) (h.0, h.1, λ rest next. same (h.0 ++ rest) ∙ h.2 rest next)

abbrev pub all_more : {A : Type 0} → (Kind → Bool) → Parser A → List A → Parser (List A)
all_more test one found = λ ts. more_from test one (length ts) found ts

abbrev one_turn : {A : Type 0} → (Kind → Bool) → Parser A → List A → Parser (List A)
one_turn test one found = λ ts. if test (kind_of ts) then and_then (one ts) (λ a. all_more test one (found ++ a ∷ [])) else Ok (found, ts)

unrolled : {A : Type 0} (test : Kind → Bool) (one : Parser A) → test kind.End ≡ false → Takes one → (found : List A) (ts : List Token)
    → all_more test one found ts ≡ one_turn test one found ts
unfolding more_from
unrolled test one end less found [] = sym (ap (λ b. if b then and_then (one []) (λ a. all_more test one (found ++ a ∷ [])) else Ok (found, [])) end)
unrolled {A = A} test one end less found (t ∷ ts) = ap (λ x. if test t.kind then x else Ok (found, t ∷ ts)) (inner (one (t ∷ ts)) refl)
  where
    inner : (o : Outcome A) → one (t ∷ ts) ≡ o
        → and_then o (λ a. more_from test one (length ts) (found ++ a ∷ [])) ≡ and_then o (λ a. all_more test one (found ++ a ∷ []))
    inner (Err e) is = refl
    inner (Ok q) is =
        turns test one end less (length ts) (length q.1) (found ++ q.0 ∷ []) q.1 (some_length_of (less (t ∷ ts) q.0 q.1 is)) (omega arith)
      where
        some_length_of : suc (length q.1) ≤ length (t ∷ ts) → length q.1 ≤ length ts
        some_length_of h = let l : length (t ∷ ts) ≡ suc (length ts) = refl in omega (arith, l, h)

more_local : {A : Type 0} (test : Kind → Bool) (one : Parser A) → test kind.End ≡ false → Takes one → IsLocal one
    → (n : ℕ) (found : List A) (ts : List Token) → length ts ≤ n → StopsAt (all_more test one found) ts (all_more test one found ts)
unfolding more_from
more_local test one end less each n found [] few =
    ([], refl, λ rest same. ap (all_more test one found) (only_end rest same) ∙ ap (λ us. Ok (found, us)) (sym (only_end rest same)))
more_local test one end less each zero found (t ∷ ts) few = absurd (no_length t ts few)
more_local test one end less each (suc n) found (t ∷ ts) few =
    same_stops (all_more test one found) (one_turn test one found) (unrolled test one end less found) (t ∷ ts)
    (choice_stops test (λ us. and_then (one us) (λ a. all_more test one (found ++ a ∷ []))) (λ us. Ok (found, us)) (t ∷ ts)
    (then_stops one (λ a. all_more test one (found ++ a ∷ [])) (t ∷ ts) (one (t ∷ ts)) refl (each (t ∷ ts))
    (λ b mid is. more_local test one end less each n (found ++ b ∷ []) mid (fewer mid (less (t ∷ ts) b mid is))))
    ([], refl, λ rest same. refl) (test t.kind) refl)
  where
    fewer : (mid : List Token) → suc (length mid) ≤ length (t ∷ ts) → length mid ≤ n
    fewer mid h = omega (arith, h, few)

-- the first of two tests tells, or a token is taken
abbrev pub Beyond : {A : Type 0} → (Kind → Bool) → Parser A → Type 0
Beyond test p = (t : Token) (us : List Token) → test t.kind ≡ true → suc (length (left_of (p (t ∷ us)))) ≤ length (t ∷ us)

same_two : (one two : Kind → Bool) (ts xs left rest : List Token) → ts ≡ xs ++ left → (one (kind_of ts) ≡ true → xs ≡ [] → ⊥) → SameNext left rest
    → (one (kind_of (xs ++ rest)) && two (kind_of (drop 1 (xs ++ rest)))) ≡ (one (kind_of ts) && two (kind_of (drop 1 ts)))
same_two one two ts (x ∷ xs) left rest e some same =
    ap (λ k. one x.kind && two k) (same_kind (xs ++ left) (xs ++ rest) (same_after xs left rest same))
    ∙ ap (λ us. one (kind_of us) && two (kind_of (drop 1 us))) (sym e)
same_two one two ts [] left rest e some same = by_test (one (kind_of ts)) refl
  where
    same_one : one (kind_of rest) ≡ one (kind_of ts)
    same_one = ap one (same_kind ts rest (moved ts [] left rest e same))

    by_test : (b : Bool) → one (kind_of ts) ≡ b → (one (kind_of rest) && two (kind_of (drop 1 rest))) ≡ (one (kind_of ts) && two (kind_of (drop 1 ts)))
    by_test true is = absurd (some is refl)
    by_test false is =
        ap (λ c. c && two (kind_of (drop 1 rest))) (same_one ∙ is) ∙ sym (ap (λ c. c && two (kind_of (drop 1 ts))) is)

taken_some : (test : Kind → Bool) → test kind.End ≡ false → (ts xs left : List Token) → ts ≡ xs ++ left
    → ((t : Token) (us : List Token) → ts ≡ t ∷ us → test t.kind ≡ true → suc (length left) ≤ length (t ∷ us)) → test (kind_of ts) ≡ true → xs ≡ [] → ⊥
taken_some test end [] xs left e less is none = false_true (sym end ∙ is)
taken_some test end (t ∷ us) xs left e less is none =
    let l = less t us refl is in
    let same : length (t ∷ us) ≡ length left = ap length (e ∙ ap (λ ys. ys ++ left) none) in
    omega (arith, l, same)

two_stops : {A : Type 0} (one two : Kind → Bool) (p q : Parser A) (ts : List Token) → one kind.End ≡ false → Beyond one p → Beyond one q
    → StopsAt p ts (p ts) → StopsAt q ts (q ts) → (b : Bool) → (one (kind_of ts) && two (kind_of (drop 1 ts))) ≡ b
    → StopsAt (λ us. if one (kind_of us) && two (kind_of (drop 1 us)) then p us else q us) ts (if b then p ts else q ts)
two_stops one two p q ts end far_p far_q hp hq true is = (
  hp.0,
  hp.1,
  λ rest same.
      ap (λ b. if b then p (hp.0 ++ rest) else q (hp.0 ++ rest)) (same_two one two ts hp.0 (left_of (p ts)) rest hp.1
      (taken_some one end ts hp.0 (left_of (p ts)) hp.1 (λ t us e h. subst (λ ws. suc (length (left_of (p ws))) ≤ length (t ∷ us)) (sym e) (far_p t us h))) same ∙ is)
      ∙ hp.2 rest same,
)
two_stops one two p q ts end far_p far_q hp hq false is = (
  hq.0,
  hq.1,
  λ rest same.
      ap (λ b. if b then p (hq.0 ++ rest) else q (hq.0 ++ rest)) (same_two one two ts hq.0 (left_of (q ts)) rest hq.1
      (taken_some one end ts hq.0 (left_of (q ts)) hq.1 (λ t us e h. subst (λ ws. suc (length (left_of (q ws))) ≤ length (t ∷ us)) (sym e) (far_q t us h))) same ∙ is)
      ∙ hq.2 rest same,
)

-- what takes a token that stands alone takes it wherever it stands
pub beyond : {A : Type 0} (test : Kind → Bool) (p : Parser A) → IsLocal p → ((t : Token) → test t.kind ≡ true → left_of (p (t ∷ [])) ≡ []) → Beyond test p
beyond {A = A} test p each alone t us is = by_front (each (t ∷ us))
  where
    clash : ◌≡◌ {A = List Token} [] (t ∷ []) → ⊥
    clash h = cc

    left_with : (o : Outcome A) (rest : List Token) → left_of (with_left o rest) ≡ rest
    left_with (Ok q) rest = refl
    left_with (Err e) rest = refl

    by_front : StopsAt p (t ∷ us) (p (t ∷ us)) → suc (length (left_of (p (t ∷ us)))) ≤ length (t ∷ us)
    by_front h = by_list h.0 h.1 h.2
      where
        by_list : (xs : List Token) → t ∷ us ≡ xs ++ left_of (p (t ∷ us))
            → ((rest : List Token) → SameNext (left_of (p (t ∷ us))) rest → p (xs ++ rest) ≡ with_left (p (t ∷ us)) rest)
            → suc (length (left_of (p (t ∷ us)))) ≤ length (t ∷ us)
        by_list [] e g =
            let next : SameNext (left_of (p (t ∷ us))) (t ∷ []) = subst (λ ws. SameNext ws (t ∷ [])) e refl in
            absurd (clash (sym (alone t is) ∙ ap left_of (g (t ∷ []) next) ∙ left_with (p (t ∷ us)) (t ∷ [])))
        by_list (x ∷ xs) e g =
            let l : length (t ∷ us) ≡ length (x ∷ (xs ++ left_of (p (t ∷ us)))) = ap length e in
            let m : length (x ∷ (xs ++ left_of (p (t ∷ us)))) ≡ suc (length (xs ++ left_of (p (t ∷ us)))) = refl in
            omega (arith, l, m, length-append xs (left_of (p (t ∷ us))))

-- over how parts are read
module _ (parts : (p : Part) → Parser (Tree p)) where
  abbrev pub Looks : {A : Type 0} → Rule A → Type 0
  Looks (give a) = Unit {0}
  Looks name = Unit {0}
  Looks number = Unit {0}
  Looks (word value) = Unit {0}
  Looks (mark m) = Unit {0}
  Looks (part p) = Unit {0}
  Looks (starting f) = (n : ℕ) → Looks (f n)
  Looks (sequence {B = B} r f) = Looks r × ((b : B) → Looks (f b))
  Looks (either test r s) = Looks r × Looks s
  Looks (either_by_two one two r s) = Looks r × Looks s × (one kind.End ≡ false) × Beyond one (read parts r) × Beyond one (read parts s)
  Looks (unless test r) = Looks r
  Looks (more found test r) = Looks r × (test kind.End ≡ false) × Takes (read parts r)

  pub local : ((p : Part) → IsLocal (parts p)) → {A : Type 0} (r : Rule A) → Looks r → IsLocal (read parts r)
  unfolding read_name read_number read_word
  local each (give a) looks ts = ([], refl, λ rest same. refl)
  local each name looks ts = value_local named ts
  local each number looks ts = value_local (λ n. numbered) ts
  local each (word value) looks ts = value_local (λ n. worded value) ts
  local each (mark m) looks ts = mark_local m ts
  local each (part p) looks ts = each p ts
  local each (starting f) looks ts =
      let h = local each (f (start_of ts)) (looks (start_of ts)) ts in (
        h.0,
        h.1,
        λ rest same.
            ap (λ n. read parts (f n) (h.0 ++ rest)) (same_start ts (h.0 ++ rest) (moved ts h.0 (left_of (read parts (f (start_of ts)) ts)) rest h.1 same))
            ∙ h.2 rest same,
      )
  local each (sequence r f) looks ts =
      then_stops (read parts r) (λ b. read parts (f b)) ts (read parts r ts) refl (local each r looks.0 ts) (λ b mid is. local each (f b) (looks.1 b) mid)
  local each (either test r s) looks ts =
      choice_stops test (read parts r) (read parts s) ts (local each r looks.0 ts) (local each s looks.1 ts) (test (kind_of ts)) refl
  local each (either_by_two one two r s) looks ts =
      two_stops one two (read parts r) (read parts s) ts looks.2 looks.3 looks.4 (local each r looks.0 ts) (local each s looks.1 ts)
      (one (kind_of ts) && two (kind_of (drop 1 ts))) refl
  local each (unless test r) looks ts =
      choice_stops test refuse (read parts r) ts (refuse_local ts) (local each r looks ts) (test (kind_of ts)) refl
  local each (more found test r) looks ts = more_local test (read parts r) looks.1 looks.2 (local each r looks.0) (length ts) found ts (omega arith)
