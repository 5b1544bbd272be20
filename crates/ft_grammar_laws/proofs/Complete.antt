-- What has a value by a rule is read, whatever may follow it.
use Rattle.std.proofs.Common.{◌≡◌, ◌∙◌, sym, ap, refl, subst, ℕ, zero, suc, ◌≤◌, Bool, true, false, if◌then◌else◌, ◌&&◌, ◌||◌, not, IsTrue, is_some, List, [], ◌∷◌, ◌++◌, length, Ok, Option, Some, None, drop, append_assoc, append-nil, ◌⊎◌, inl, inr, arith}
use Rattle.ft_grammar.specs.declared.token.Kind.{Kind}
use Rattle.ft_grammar.specs.declared.token.Kind.TheVariants as kind
use Rattle.ft_grammar.specs.declared.token.Token.{Token}
use Rattle.ft_grammar.specs.declared.syntax.Named.{Named}
use Rattle.ft_grammar.specs.Rules.{Rule, Part, Tree, AllOf, Is, give, name, number, word, mark, part, starting, sequence, either, either_by_two, unless, more, named, numbered, worded, is_mark, is_name}
use Rattle.ft_grammar.specs.Reading.{Parser, and_then, read, more_from, start_of, kind_of, read_name, read_number, read_word, read_mark, value_or_refuse, refuse}
use Rattle.std.proofs.lemmas.List.{length-append}
use Rattle.ft_grammar_laws.proofs.Sound.{eats, PartsEat, eaten}

-- the tokens that begin a part, and those that may follow one
module _ (begins follows : Part → Kind → Bool) where
  -- a value for no token, where the rule has one
  abbrev pub value_of_none : {A : Type 0} → Rule A → Option A
  value_of_none (give a) = Some a
  value_of_none name = None
  value_of_none number = None
  value_of_none (word value) = None
  value_of_none (mark m) = None
  value_of_none (part p) = None
  value_of_none (starting f) = None
  value_of_none (sequence r f) = None
  value_of_none (either test r s) = value_of_none s
  value_of_none (either_by_two first second r s) = value_of_none s
  value_of_none (unless test r) = None
  value_of_none (more found test r) = Some found

  abbrev pub after : {B : Type 0} → Option B → (B → Kind → Bool) → Kind → Bool
  after None g = λ k. true
  after (Some b) g = g b

  -- the tokens that begin a list of the rule, or follow it where it has no token
  abbrev pub first : {A : Type 0} → Rule A → (Kind → Bool) → Kind → Bool
  first (give a) F = F
  first name F = is_name
  first number F = λ k. is_some (numbered k)
  first (word value) F = λ k. is_some (worded value k)
  first (mark m) F = is_mark m
  first (part p) F = begins p
  first (starting f) F = first (f 0) F
  first (sequence r f) F = first r (after (value_of_none r) (λ b. first (f b) F))
  first (either test r s) F = λ k. first r F k || first s F k
  first (either_by_two one two r s) F = λ k. first r F k || first s F k
  first (unless test r) F = λ k. not (test k) && first r F k
  first (more found test r) F = λ k. first r (λ k. true) k || F k

  -- tokens of the first kind are of the second
  abbrev pub Within : (Kind → Bool) → (Kind → Bool) → Type 0
  Within F G = (k : Kind) → F k ≡ true → G k ≡ true

  abbrev pub Apart : (Kind → Bool) → (Kind → Bool) → Type 0
  Apart F G = (k : Kind) → F k ≡ true → G k ≡ false

  abbrev pub SameAfter : {B : Type 0} → Option B → (B → Kind → Bool) → Type 0
  SameAfter None g = Unit {0}
  SameAfter {B = B} (Some b) g = (c : B) → Within (g c) (g b)

  -- what begins a list of the rule does not depend on values
  abbrev pub IsUniform : {A : Type 0} → Rule A → Type 0
  IsUniform (give a) = Unit {0}
  IsUniform name = Unit {0}
  IsUniform number = Unit {0}
  IsUniform (word value) = Unit {0}
  IsUniform (mark m) = Unit {0}
  IsUniform (part p) = Unit {0}
  IsUniform (starting f) = (n : ℕ) → IsUniform (f n) × ((F : Kind → Bool) → Within (first (f n) F) (first (f 0) F))
  IsUniform (sequence {B = B} r f) = IsUniform r × ((b : B) → IsUniform (f b)) × ((F : Kind → Bool) → SameAfter (value_of_none r) (λ b. first (f b) F))
  IsUniform (either test r s) = IsUniform r × IsUniform s
  IsUniform (either_by_two one two r s) = IsUniform r × IsUniform s
  IsUniform (unless test r) = IsUniform r
  IsUniform (more found test r) = IsUniform r

  module _ (R : (p : Part) → Tree p → List Token → Type 0) where
    abbrev pub PartsBegin : Type 0
    PartsBegin = (p : Part) (a : Tree p) (xs rest : List Token) → R p a xs → begins p (kind_of (xs ++ rest)) ≡ true

    -- two tests tell the lists of the rules apart
    abbrev pub Tells : {A : Type 0} → (Kind → Bool) → (Kind → Bool) → Rule A → (Kind → Bool) → Bool → Type 0
    Tells {A = A} one two r F b = (a : A) (xs rest : List Token) → Is R r a xs → F (kind_of rest) ≡ true
        → (one (kind_of (xs ++ rest)) && two (kind_of (drop 1 (xs ++ rest)))) ≡ b

    -- the next token tells how a list of the rule goes on, where what follows it is of the kind F
    abbrev pub Fits : {A : Type 0} → Rule A → (Kind → Bool) → Type 0
    Fits (give a) F = Unit {0}
    Fits name F = Unit {0}
    Fits number F = Unit {0}
    Fits (word value) F = Unit {0}
    Fits (mark m) F = Unit {0}
    Fits (part p) F = Within F (follows p)
    Fits (starting f) F = (n : ℕ) → Fits (f n) F
    Fits (sequence {B = B} r f) F = (b : B) → (G : Kind → Bool) × Fits r G × Within (first (f b) F) G × Fits (f b) F
    Fits (either test r s) F = Fits r F × Fits s F × Within (first r F) test × Apart (first s F) test
    Fits (either_by_two one two r s) F = Fits r F × Fits s F × Tells one two r F true × Tells one two s F false
    Fits (unless test r) F = Fits r F
    Fits (more found test r) F =
        (G : Kind → Bool) × Fits r G × Within (λ k. first r (λ k. true) k || F k) G × Within (first r (λ k. true)) test × Apart F test × IsTrue (eats r)

    -- ---- fewer tokens may follow
    or_grows : (a b c d : Bool) → (a ≡ true → c ≡ true) → (b ≡ true → d ≡ true) → (a || b) ≡ true → (c || d) ≡ true
    or_grows true b c d f g h = ap (λ x. x || d) (f refl)
    or_grows false b true d f g h = refl
    or_grows false b false d f g h = g h

    and_grows : (a b d : Bool) → (b ≡ true → d ≡ true) → (a && b) ≡ true → (a && d) ≡ true
    and_grows true b d g h = g h
    and_grows false b d g h = h

    after_grows : {B : Type 0} (o : Option B) (g h : B → Kind → Bool) → ((b : B) → Within (g b) (h b)) → Within (after o g) (after o h)
    after_grows None g h grow k e = refl
    after_grows (Some b) g h grow k e = grow b k e

    pub first_grows : {A : Type 0} (r : Rule A) (F G : Kind → Bool) → Within F G → Within (first r F) (first r G)
    first_grows (give a) F G less k h = less k h
    first_grows name F G less k h = h
    first_grows number F G less k h = h
    first_grows (word value) F G less k h = h
    first_grows (mark m) F G less k h = h
    first_grows (part p) F G less k h = h
    first_grows (starting f) F G less k h = first_grows (f 0) F G less k h
    first_grows (sequence r f) F G less k h =
        first_grows r (after (value_of_none r) (λ b. first (f b) F)) (after (value_of_none r) (λ b. first (f b) G))
        (after_grows (value_of_none r) (λ b. first (f b) F) (λ b. first (f b) G) (λ b. first_grows (f b) F G less)) k h
    first_grows (either test r s) F G less k h =
        or_grows (first r F k) (first s F k) (first r G k) (first s G k) (first_grows r F G less k) (first_grows s F G less k) h
    first_grows (either_by_two one two r s) F G less k h =
        or_grows (first r F k) (first s F k) (first r G k) (first s G k) (first_grows r F G less k) (first_grows s F G less k) h
    first_grows (unless test r) F G less k h =
        and_grows (not (test k)) (first r F k) (first r G k) (first_grows r F G less k) h
    first_grows (more found test r) F G less k h =
        or_grows (first r (λ k. true) k) (F k) (first r (λ k. true) k) (G k) (λ e. e) (less k) h

    pub shrink : {A : Type 0} (r : Rule A) (F G : Kind → Bool) → Within F G → Fits r G → Fits r F
    shrink (give a) F G less fit = tt
    shrink name F G less fit = tt
    shrink number F G less fit = tt
    shrink (word value) F G less fit = tt
    shrink (mark m) F G less fit = tt
    shrink (part p) F G less fit = λ k h. fit k (less k h)
    shrink (starting f) F G less fit = λ n. shrink (f n) F G less (fit n)
    shrink (sequence r f) F G less fit =
        λ b. ((fit b).0, (fit b).1, λ k h. (fit b).2 k (first_grows (f b) F G less k h), shrink (f b) F G less (fit b).3)
    shrink (either test r s) F G less fit =
        (shrink r F G less fit.0, shrink s F G less fit.1, λ k h. fit.2 k (first_grows r F G less k h), λ k h. fit.3 k (first_grows s F G less k h))
    shrink (either_by_two one two r s) F G less fit = (
      shrink r F G less fit.0,
      shrink s F G less fit.1,
      λ a xs rest h next. fit.2 a xs rest h (less (kind_of rest) next),
      λ a xs rest h next. fit.3 a xs rest h (less (kind_of rest) next),
    )
    shrink (unless test r) F G less fit = shrink r F G less fit
    shrink (more found test r) F G less fit = (
      fit.0,
      fit.1,
      λ k h. fit.2 k (or_grows (first r (λ k. true) k) (F k) (first r (λ k. true) k) (G k) (λ e. e) (less k) h),
      fit.3,
      λ k h. fit.4 k (less k h),
      fit.5,
    )

    -- ---- what begins
    to_token : {A : Type 0} (F : Kind → Bool) (value : Token → Option A) (test : Kind → Bool) → ((t : Token) (a : A) → value t ≡ Some a → test t.kind ≡ true)
        → (a : A) (xs rest : List Token) → ((t : Token) × (xs ≡ t ∷ []) × (value t ≡ Some a)) → test (kind_of (xs ++ rest)) ≡ true
    to_token F value test goes a xs rest h = ap (λ ys. test (kind_of (ys ++ rest))) h.1 ∙ goes h.0 a h.2

    none_some : {A : Type 0} {a : A} → ◌≡◌ {A = Option A} None (Some a) → ⊥
    none_some h = cc

    has_name_kind : (at : ℕ) (k : Kind) (a : Named) → named at k ≡ Some a → is_name k ≡ true
    unfolding is_name
    has_name_kind at (kind.Name n) a h = refl
    has_name_kind at (kind.Number n) a h = absurd (none_some h)
    has_name_kind at (kind.Word v) a h = absurd (none_some h)
    has_name_kind at (kind.Mark m) a h = absurd (none_some h)
    has_name_kind at kind.Bad a h = absurd (none_some h)
    has_name_kind at kind.End a h = absurd (none_some h)

    pub has_name : (t : Token) (a : Named) → named t.start t.kind ≡ Some a → is_name t.kind ≡ true
    has_name t a h = has_name_kind t.start t.kind a h

    either_true : (a b : Bool) → (a ≡ true) ⊎ (b ≡ true) → (a || b) ≡ true
    either_true true b h = refl
    either_true false b (inl h) = absurd (clash h)
      where
        clash : ◌≡◌ {A = Bool} false true → ⊥
        clash h = cc
    either_true false b (inr h) = h

    both_true : (a b : Bool) → a ≡ true → b ≡ true → (a && b) ≡ true
    both_true true b h g = g
    both_true false b h g = h

    first_next : {B : Type 0} (o : Option B) (g : B → Kind → Bool) → SameAfter o g → (b : B) (k : Kind) → g b k ≡ true → after o g k ≡ true
    first_next None g same b k h = refl
    first_next (Some c) g same b k h = same b k h

    first_of_all : {B : Type 0} (P : B → List Token → Type 0) (G F : Kind → Bool) → ((b : B) (ys us : List Token) → P b ys → G (kind_of (ys ++ us)) ≡ true)
        → (bs : List B) (xs rest : List Token) → AllOf P bs xs → F (kind_of rest) ≡ true → (G (kind_of (xs ++ rest)) || F (kind_of (xs ++ rest))) ≡ true
    first_of_all P G F each [] xs rest h next =
        either_true (G (kind_of (xs ++ rest))) (F (kind_of (xs ++ rest))) (inr (ap (λ ys. F (kind_of (ys ++ rest))) h ∙ next))
    first_of_all P G F each (b ∷ bs) xs rest h next =
        either_true (G (kind_of (xs ++ rest))) (F (kind_of (xs ++ rest)))
        (inl (ap (λ ys. G (kind_of ys)) (ap (λ ys. ys ++ rest) h.2 ∙ append_assoc h.0 h.1 rest) ∙ each b h.0 (h.1 ++ rest) h.3))

    pub first_is : PartsBegin → {A : Type 0} (r : Rule A) (F : Kind → Bool) → IsUniform r → (a : A) (xs rest : List Token) → Is R r a xs
        → F (kind_of rest) ≡ true → first r F (kind_of (xs ++ rest)) ≡ true
    first_is parts (give b) F u a xs rest h next = ap (λ ys. F (kind_of (ys ++ rest))) h.1 ∙ next
    first_is parts name F u a xs rest h next = to_token F (λ t. named t.start t.kind) is_name has_name a xs rest h
    first_is parts number F u a xs rest h next =
        to_token F (λ t. numbered t.kind) (λ k. is_some (numbered k)) (λ t a e. ap is_some e) a xs rest h
    first_is parts (word value) F u a xs rest h next =
        to_token F (λ t. worded value t.kind) (λ k. is_some (worded value k)) (λ t a e. ap is_some e) a xs rest h
    first_is parts (mark m) F u a xs rest h next = ap (λ ys. is_mark m (kind_of (ys ++ rest))) h.1 ∙ h.2
    first_is parts (part p) F u a xs rest h next = parts p a xs rest h
    first_is parts (starting f) F u a xs rest h next =
        (u h.0.start).1 F (kind_of (xs ++ rest)) (first_is parts (f h.0.start) F (u h.0.start).0 a xs rest h.3 next)
    first_is parts (sequence r f) F u a xs rest h next =
        let back = first_is parts (f h.0) F (u.1 h.0) a h.2 rest h.5 next in
        ap (λ ys. first (sequence r f) F (kind_of ys)) (ap (λ ys. ys ++ rest) h.3 ∙ append_assoc h.1 h.2 rest)
        ∙ first_is parts r (after (value_of_none r) (λ b. first (f b) F)) u.0 h.0 h.1 (h.2 ++ rest) h.4
        (first_next (value_of_none r) (λ b. first (f b) F) (u.2 F) h.0 (kind_of (h.2 ++ rest)) back)
    first_is parts (either test r s) F u a xs rest (inl h) next =
        either_true (first r F (kind_of (xs ++ rest))) (first s F (kind_of (xs ++ rest))) (inl (first_is parts r F u.0 a xs rest h next))
    first_is parts (either test r s) F u a xs rest (inr h) next =
        either_true (first r F (kind_of (xs ++ rest))) (first s F (kind_of (xs ++ rest))) (inr (first_is parts s F u.1 a xs rest h next))
    first_is parts (either_by_two one two r s) F u a xs rest (inl h) next =
        either_true (first r F (kind_of (xs ++ rest))) (first s F (kind_of (xs ++ rest))) (inl (first_is parts r F u.0 a xs rest h next))
    first_is parts (either_by_two one two r s) F u a xs rest (inr h) next =
        either_true (first r F (kind_of (xs ++ rest))) (first s F (kind_of (xs ++ rest))) (inr (first_is parts s F u.1 a xs rest h next))
    first_is parts (unless test r) F u a xs rest h next =
        both_true (not (test (kind_of (xs ++ rest)))) (first r F (kind_of (xs ++ rest)))
        (ap (λ ys. not (test (kind_of (ys ++ rest)))) h.2 ∙ ap not h.3) (first_is parts r F u a xs rest h.4 next)
    first_is parts (more found test r) F u a xs rest h next =
        first_of_all (Is R r) (first r (λ k. true)) F (λ b ys us g. first_is parts r (λ k. true) u b ys us g refl) h.0 xs rest h.2 next

    -- ---- reading back
    abbrev pub ReadsBack : {A : Type 0} → Parser A → (A → List Token → Type 0) → (Kind → Bool) → Type 0
    ReadsBack {A = A} p P F = (a : A) (xs rest : List Token) → P a xs → F (kind_of rest) ≡ true → p (xs ++ rest) ≡ Ok (a, rest)

    some_tokens : (xs : List Token) → (xs ≡ [] → ⊥) → (zs : List Token) (n : ℕ) → length (xs ++ zs) ≤ suc n → length zs ≤ n
    some_tokens [] some zs n h = absurd (some refl)
    some_tokens (x ∷ xs) some zs n h =
        let l : length (x ∷ (xs ++ zs)) ≡ suc (length (xs ++ zs)) = refl in
        omega (arith, l, h, length-append xs zs)

    no_tokens : (xs : List Token) → (xs ≡ [] → ⊥) → (zs : List Token) → length (xs ++ zs) ≤ 0 → ⊥
    no_tokens [] some zs h = some refl
    no_tokens (x ∷ xs) some zs h =
        let l : length (x ∷ (xs ++ zs)) ≡ suc (length (xs ++ zs)) = refl in
        omega (arith, l, h)

    pub ends : {A : Type 0} (test : Kind → Bool) (one : Parser A) (n : ℕ) (found : List A) (ts : List Token) → test (kind_of ts) ≡ false
        → more_from test one n found ts ≡ Ok (found, ts)
    unfolding more_from
    ends test one zero found ts h = refl
    ends test one (suc n) found ts h =
        ap (λ b. if b then and_then (one ts) (λ a. more_from test one n (found ++ a ∷ [])) else Ok (found, ts)) h

    all_back : {A : Type 0} (test : Kind → Bool) (one : Parser A) (P : A → List Token → Type 0) (G F : Kind → Bool)
        → ReadsBack one P (λ k. G k || F k) → ((a : A) (ys us : List Token) → P a ys → G (kind_of (ys ++ us)) ≡ true)
        → ((a : A) (ys : List Token) → P a ys → ys ≡ [] → ⊥) → Within G test → Apart F test
        → (n : ℕ) (found bs : List A) (xs rest : List Token) → length (xs ++ rest) ≤ n → AllOf P bs xs → F (kind_of rest) ≡ true
        → more_from test one n found (xs ++ rest) ≡ Ok (found ++ bs, rest)
    unfolding more_from
    all_back test one P G F back begin some within apart n found [] xs rest few h next =
        ap (λ ys. more_from test one n found (ys ++ rest)) h ∙ ends test one n found rest (apart (kind_of rest) next)
        ∙ ap (λ given. Ok (given, rest)) (sym (append-nil found))
    all_back test one P G F back begin some within apart zero found (b ∷ bs) xs rest few h next =
        absurd (no_tokens h.0 (some b h.0 h.3) (h.1 ++ rest) (subst (λ ys. length ys ≤ 0) (ap (λ ys. ys ++ rest) h.2 ∙ append_assoc h.0 h.1 rest) few))
    all_back test one P G F back begin some within apart (suc n) found (b ∷ bs) xs rest few h next =
        let apart_is = ap (λ ys. ys ++ rest) h.2 ∙ append_assoc h.0 h.1 rest in
        let less = some_tokens h.0 (some b h.0 h.3) (h.1 ++ rest) n (subst (λ ys. length ys ≤ suc n) apart_is few) in
        let then_ok = first_of_all P G F begin bs h.1 rest h.4 next in
        ap (λ ys. more_from test one (suc n) found ys) apart_is
        ∙ ap (λ c. if c then and_then (one (h.0 ++ (h.1 ++ rest))) (λ a. more_from test one n (found ++ a ∷ [])) else Ok (found, h.0 ++ (h.1 ++ rest)))
        (within (kind_of (h.0 ++ (h.1 ++ rest))) (begin b h.0 (h.1 ++ rest) h.3))
        ∙ ap (λ o. and_then o (λ a. more_from test one n (found ++ a ∷ []))) (back b h.0 (h.1 ++ rest) h.3 then_ok)
        ∙ all_back test one P G F back begin some within apart n (found ++ b ∷ []) bs h.1 rest less h.4 next
        ∙ ap (λ given. Ok (given, rest)) (append_assoc found (b ∷ []) bs)

    module _ (parts : (p : Part) → Parser (Tree p)) where
      pub back : PartsEat R → PartsBegin → ((p : Part) → ReadsBack (parts p) (λ a. R p a) (follows p)) → {A : Type 0} (r : Rule A) (F : Kind → Bool)
          → IsUniform r → Fits r F → ReadsBack (read parts r) (λ a. Is R r a) F
      unfolding read_name read_number read_word read_mark
      back eat begin each (give b) F u fit a xs rest h next = ap (λ ys. Ok (b, ys ++ rest)) h.1 ∙ ap (λ c. Ok (c, rest)) (sym h.0)
      back eat begin each name F u fit a xs rest h next =
          ap (λ ys. read_name (ys ++ rest)) h.1 ∙ ap (λ o. value_or_refuse o (h.0 ∷ rest)) h.2
      back eat begin each number F u fit a xs rest h next =
          ap (λ ys. read_number (ys ++ rest)) h.1 ∙ ap (λ o. value_or_refuse o (h.0 ∷ rest)) h.2
      back eat begin each (word value) F u fit a xs rest h next =
          ap (λ ys. read_word value (ys ++ rest)) h.1 ∙ ap (λ o. value_or_refuse o (h.0 ∷ rest)) h.2
      back eat begin each (mark m) F u fit a xs rest h next =
          ap (λ ys. read_mark m (ys ++ rest)) h.1 ∙ ap (λ b. if b then Ok (tt, rest) else refuse (h.0 ∷ rest)) h.2
      back eat begin each (part p) F u fit a xs rest h next = each p a xs rest h (fit (kind_of rest) next)
      back eat begin each (starting f) F u fit a xs rest h next =
          ap (λ n. read parts (f n) (xs ++ rest)) (ap (λ ys. start_of (ys ++ rest)) h.2)
          ∙ back eat begin each (f h.0.start) F (u h.0.start).0 (fit h.0.start) a xs rest h.3 next
      back eat begin each (sequence r f) F u fit a xs rest h next =
          ap (λ ys. and_then (read parts r ys) (λ b. read parts (f b))) (ap (λ ys. ys ++ rest) h.3 ∙ append_assoc h.1 h.2 rest)
          ∙ ap (λ o. and_then o (λ b. read parts (f b))) (back eat begin each r (fit h.0).0 u.0 (fit h.0).1 h.0 h.1 (h.2 ++ rest) h.4
          ((fit h.0).2 (kind_of (h.2 ++ rest)) (first_is begin (f h.0) F (u.1 h.0) a h.2 rest h.5 next)))
          ∙ back eat begin each (f h.0) F (u.1 h.0) (fit h.0).3 a h.2 rest h.5 next
      back eat begin each (either test r s) F u fit a xs rest (inl h) next =
          ap (λ b. if b then read parts r (xs ++ rest) else read parts s (xs ++ rest)) (fit.2 (kind_of (xs ++ rest)) (first_is begin r F u.0 a xs rest h next))
          ∙ back eat begin each r F u.0 fit.0 a xs rest h next
      back eat begin each (either test r s) F u fit a xs rest (inr h) next =
          ap (λ b. if b then read parts r (xs ++ rest) else read parts s (xs ++ rest)) (fit.3 (kind_of (xs ++ rest)) (first_is begin s F u.1 a xs rest h next))
          ∙ back eat begin each s F u.1 fit.1 a xs rest h next
      back eat begin each (either_by_two one two r s) F u fit a xs rest (inl h) next =
          ap (λ b. if b then read parts r (xs ++ rest) else read parts s (xs ++ rest)) (fit.2 a xs rest h next)
          ∙ back eat begin each r F u.0 fit.0 a xs rest h next
      back eat begin each (either_by_two one two r s) F u fit a xs rest (inr h) next =
          ap (λ b. if b then read parts r (xs ++ rest) else read parts s (xs ++ rest)) (fit.3 a xs rest h next)
          ∙ back eat begin each s F u.1 fit.1 a xs rest h next
      back eat begin each (unless test r) F u fit a xs rest h next =
          ap (λ b. if b then refuse (xs ++ rest) else read parts r (xs ++ rest)) (ap (λ ys. test (kind_of (ys ++ rest))) h.2 ∙ h.3)
          ∙ back eat begin each r F u fit a xs rest h.4 next
      back eat begin each (more found test r) F u fit a xs rest h next =
          all_back test (read parts r) (λ b. Is R r b) (first r (λ k. true)) F
          (λ b ys us g n. back eat begin each r fit.0 u fit.1 b ys us g (fit.2 (kind_of us) n))
          (λ b ys us g. first_is begin r (λ k. true) u b ys us g refl) (λ b ys g. eaten R eat r b ys fit.5 g) fit.3 fit.4
          (length (xs ++ rest)) found h.0 xs rest (omega arith) h.2 next
          ∙ ap (λ as_found. Ok (as_found, rest)) (sym h.1)
