-- What is read by a rule has its value by the rule.
use Rattle.std.proofs.Common.{◌≡◌, ◌∙◌, sym, ap, refl, subst, ℕ, zero, suc, Bool, true, false, if◌then◌else◌, ◌&&◌, IsTrue, List, [], ◌∷◌, ◌++◌, length, Ok, Err, Option, Some, None, drop, append_assoc, append-nil, ◌⊎◌, inl, inr}
use Rattle.std.proofs.lemmas.Bool.{and_parts}
use Rattle.ft_grammar.specs.declared.token.Kind.{Kind}
use Rattle.ft_grammar.specs.declared.token.Token.{Token}
use Rattle.ft_grammar.specs.declared.token.Mark.{Mark}
use Rattle.ft_grammar.specs.declared.fault.SyntaxFault.TheVariants.{Unexpected}
use Rattle.ft_grammar.specs.Rules.{Rule, Part, Tree, AllOf, Is, give, name, number, word, mark, part, starting, sequence, either, either_by_two, unless, more, named, numbered, worded, is_mark}
use Rattle.ft_grammar.specs.Reading.{Outcome, Parser, and_then, read, more_from, start_of, kind_of, read_name, read_number, read_word, read_mark, value_or_refuse, refuse}
use Rattle.ft_grammar_laws.proofs.Cases.{Front, bind_ok, chosen, taken, ok_value, ok_rest}

-- each list of the rule has a token
abbrev pub eats : {A : Type 0} → Rule A → Bool
eats (give a) = false
eats name = true
eats number = true
eats (word value) = true
eats (mark m) = true
eats (part p) = true
eats (starting f) = true
eats (sequence r f) = eats r
eats (either test r s) = eats r && eats s
eats (either_by_two first second r s) = eats r && eats s
eats (unless test r) = true
eats (more found test r) = false

-- where the place of the first token is asked for, and in lists, there is a token
abbrev pub Proper : {A : Type 0} → Rule A → Type 0
Proper (give a) = Unit {0}
Proper name = Unit {0}
Proper number = Unit {0}
Proper (word value) = Unit {0}
Proper (mark m) = Unit {0}
Proper (part p) = Unit {0}
Proper (starting f) = (n : ℕ) → IsTrue (eats (f n)) × Proper (f n)
Proper (sequence {B = B} r f) = Proper r × ((b : B) → Proper (f b))
Proper (either test r s) = Proper r × Proper s
Proper (either_by_two first second r s) = Proper r × Proper s
Proper (unless test r) = IsTrue (eats r) × Proper r
Proper (more found test r) = IsTrue (eats r) × Proper r

no_front : (ys zs : List Token) → ◌≡◌ {A = List Token} [] (ys ++ zs) → ys ≡ []
no_front [] zs h = refl
no_front (y ∷ ys) zs h = absurd (clash h)
  where
    clash : ◌≡◌ {A = List Token} [] (y ∷ (ys ++ zs)) → ⊥
    clash h = cc

-- over what the parts are, and how they are read
module _ (R : (p : Part) → Tree p → List Token → Type 0) where
  -- no part is without tokens
  abbrev pub PartsEat : Type 0
  PartsEat = (p : Part) (a : Tree p) → R p a [] → ⊥

  pub eaten : PartsEat → {A : Type 0} (r : Rule A) (a : A) (xs : List Token) → IsTrue (eats r) → Is R r a xs → xs ≡ [] → ⊥
  eaten parts (give b) a xs e h none = absurd (clash e)
    where
      clash : IsTrue false → ⊥
      clash e = cc
  eaten parts name a xs e h none = clash (sym h.1 ∙ none)
    where
      clash : {t : Token} → ◌≡◌ {A = List Token} (t ∷ []) [] → ⊥
      clash h = cc
  eaten parts number a xs e h none = clash (sym h.1 ∙ none)
    where
      clash : {t : Token} → ◌≡◌ {A = List Token} (t ∷ []) [] → ⊥
      clash h = cc
  eaten parts (word value) a xs e h none = clash (sym h.1 ∙ none)
    where
      clash : {t : Token} → ◌≡◌ {A = List Token} (t ∷ []) [] → ⊥
      clash h = cc
  eaten parts (mark m) a xs e h none = clash (sym h.1 ∙ none)
    where
      clash : {t : Token} → ◌≡◌ {A = List Token} (t ∷ []) [] → ⊥
      clash h = cc
  eaten parts (part p) a xs e h none = parts p a (subst (λ ys. R p a ys) none h)
  eaten parts (starting f) a xs e h none = clash (sym h.2 ∙ none)
    where
      clash : {t : Token} {ys : List Token} → ◌≡◌ {A = List Token} (t ∷ ys) [] → ⊥
      clash h = cc
  eaten parts (sequence r f) a xs e h none = eaten parts r h.0 h.1 e h.4 (no_front h.1 h.2 (sym none ∙ h.3))
  eaten parts (either test r s) a xs e (inl h) none = eaten parts r a xs (and_parts (eats r) (eats s) e).0 h none
  eaten parts (either test r s) a xs e (inr h) none = eaten parts s a xs (and_parts (eats r) (eats s) e).1 h none
  eaten parts (either_by_two first second r s) a xs e (inl h) none = eaten parts r a xs (and_parts (eats r) (eats s) e).0 h none
  eaten parts (either_by_two first second r s) a xs e (inr h) none = eaten parts s a xs (and_parts (eats r) (eats s) e).1 h none
  eaten parts (unless test r) a xs e h none = clash (sym h.2 ∙ none)
    where
      clash : {t : Token} {ys : List Token} → ◌≡◌ {A = List Token} (t ∷ ys) [] → ⊥
      clash h = cc
  eaten parts (more found test r) a xs e h none = absurd (clash e)
    where
      clash : IsTrue false → ⊥
      clash e = cc

  -- with the place of the first token
  begun : {A : Type 0} (f : ℕ → Rule A) (a : A) (ts rest xs : List Token) → (xs ≡ [] → ⊥) → ts ≡ xs ++ rest → Is R (f (start_of ts)) a xs
      → Is R (starting f) a xs
  begun f a ts rest [] some e h = absurd (some refl)
  begun f a ts rest (t ∷ ys) some e h = (t, ys, refl, subst (λ n. Is R (f n) a (t ∷ ys)) (ap start_of e) h)

  -- with what its first token is not
  excepted : {A : Type 0} (test : Kind → Bool) (r : Rule A) (a : A) (ts rest xs : List Token) → (xs ≡ [] → ⊥) → ts ≡ xs ++ rest → test (kind_of ts) ≡ false
      → Is R r a xs → Is R (unless test r) a xs
  excepted test r a ts rest [] some e fails h = absurd (some refl)
  excepted test r a ts rest (t ∷ ys) some e fails h = (t, ys, refl, ap (λ us. test (kind_of us)) (sym e) ∙ fails, h)

  -- what a function that reads tells of its tokens
  abbrev pub IsSound : {A : Type 0} → Parser A → (A → List Token → Type 0) → Type 0
  IsSound {A = A} p P = (ts : List Token) (a : A) (rest : List Token) → p ts ≡ Ok (a, rest) → Front (P a) ts rest

  one_token : {A : Type 0} (value : Token → Option A) (o : Option A) (ts : List Token) (a : A) (rest : List Token)
      → ((t : Token) (us : List Token) → ts ≡ t ∷ us → o ≡ value t) → (ts ≡ [] → o ≡ None) → value_or_refuse o ts ≡ Ok (a, rest)
      → Front (λ xs. (t : Token) × (xs ≡ t ∷ []) × (value t ≡ Some a)) ts rest
  one_token {A = A} value o [] a rest is none h = absurd (clash (ap (λ x. value_or_refuse x []) (sym (none refl)) ∙ h))
    where
      clash : value_or_refuse {A = A} None [] ≡ Ok (a, rest) → ⊥
      clash h = cc
  one_token value o (t ∷ ts) a rest is none h =
      let both = taken o t ts a rest h in
      (t ∷ [], both.1, (t, refl, sym (is t ts refl) ∙ both.0))

  one_mark : (m : Mark) (ts : List Token) (a : Unit {0}) (rest : List Token) → read_mark m ts ≡ Ok (a, rest)
      → Front (λ xs. (t : Token) × (xs ≡ t ∷ []) × (is_mark m t.kind ≡ true)) ts rest
  unfolding read_mark is_mark
  one_mark m [] a rest h = absurd (clash h)
    where
      clash : ◌≡◌ {A = Outcome (Unit {0})} (Err (Unexpected 0, [])) (Ok (a, rest)) → ⊥
      clash h = cc
  one_mark m (t ∷ ts) a rest h = by_test (is_mark m t.kind) refl h
    where
      by_test : (b : Bool) → is_mark m t.kind ≡ b → ◌≡◌ {A = Outcome (Unit {0})} (if b then Ok (tt, ts) else Err (Unexpected t.start, t ∷ ts)) (Ok (a, rest))
          → Front (λ xs. (u : Token) × (xs ≡ u ∷ []) × (is_mark m u.kind ≡ true)) (t ∷ ts) rest
      by_test true is h = (t ∷ [], ap (λ us. t ∷ us) (ok_rest h), (t, refl, is))
      by_test false is h = absurd (clash h)
        where
          clash : ◌≡◌ {A = Outcome (Unit {0})} (Err (Unexpected t.start, t ∷ ts)) (Ok (a, rest)) → ⊥
          clash h = cc

  -- as many as there are
  all_of : {A : Type 0} (test : Kind → Bool) (one : Parser A) (P : A → List Token → Type 0) → IsSound one P → (n : ℕ) (found : List A)
      (ts : List Token) (given : List A) (rest : List Token) → more_from test one n found ts ≡ Ok (given, rest)
      → Front (λ xs. (bs : List A) × (given ≡ found ++ bs) × AllOf P bs xs) ts rest
  unfolding more_from
  all_of test one P each zero found ts given rest h = ([], ok_rest h, ([], sym (ok_value h) ∙ sym (append-nil found), refl))
  all_of {A = A} test one P each (suc n) found ts given rest h = by_test (chosen (test (kind_of ts)) h) (all_of test one P each n)
    where
      by_test : (and_then (one ts) (λ a. more_from test one n (found ++ a ∷ [])) ≡ Ok (given, rest)) ⊎ (◌≡◌ {A = Outcome (List A)} (Ok (found, ts)) (Ok (given, rest)))
          → ((sofar : List A) (us : List Token) (given : List A) (rest : List Token) → more_from test one n sofar us ≡ Ok (given, rest)
          → Front (λ xs. (bs : List A) × (given ≡ sofar ++ bs) × AllOf P bs xs) us rest)
          → Front (λ xs. (bs : List A) × (given ≡ found ++ bs) × AllOf P bs xs) ts rest
      by_test (inr h) others = ([], ok_rest h, ([], sym (ok_value h) ∙ sym (append-nil found), refl))
      by_test (inl h) others =
          let o = bind_ok (one ts) (λ a. more_from test one n (found ++ a ∷ [])) given rest h in
          let front = each ts o.0 o.1 o.2 in
          let back = others (found ++ o.0 ∷ []) o.1 given rest o.3 in (
            front.0 ++ back.0,
            front.1 ∙ ap (λ us. front.0 ++ us) back.1 ∙ sym (append_assoc front.0 back.0 rest),
            (o.0 ∷ back.2.0, back.2.1 ∙ append_assoc found (o.0 ∷ []) back.2.0, (front.0, back.0, refl, front.2, back.2.2)),
          )

  passed : {A : Type 0} (b : Bool) (o : Outcome A) (ts : List Token) (a : A) (rest : List Token) → (if b then refuse ts else o) ≡ Ok (a, rest)
      → (b ≡ false) × (o ≡ Ok (a, rest))
  passed {A = A} true o ts a rest h = absurd (clash h)
    where
      clash : refuse {A = A} ts ≡ Ok (a, rest) → ⊥
      clash h = cc
  passed false o ts a rest h = (refl, h)

  two_fronts : {X Y : Type 0} (P Q : List Token → Type 0) (ts rest : List Token) → X ⊎ Y → (X → Front P ts rest) → (Y → Front Q ts rest)
      → Front (λ xs. P xs ⊎ Q xs) ts rest
  two_fronts P Q ts rest (inl x) f g = let got = f x in (got.0, got.1, inl got.2)
  two_fronts P Q ts rest (inr y) f g = let got = g y in (got.0, got.1, inr got.2)

  module _ (parts : (p : Part) → Parser (Tree p)) where
    -- what is read has its value
    pub sound : PartsEat → ((p : Part) → IsSound (parts p) (λ a. R p a)) → {A : Type 0} (r : Rule A) → Proper r → IsSound (read parts r) (λ a. Is R r a)
    unfolding read_name read_number read_word
    sound some each (give b) proper ts a rest h = ([], ok_rest h, (sym (ok_value h), refl))
    sound some each name proper ts a rest h =
        one_token (λ t. named t.start t.kind) (named (start_of ts) (kind_of ts)) ts a rest
        (λ t us e. ap (λ ws. named (start_of ws) (kind_of ws)) e) (λ e. ap (λ ws. named (start_of ws) (kind_of ws)) e) h
    sound some each number proper ts a rest h =
        one_token (λ t. numbered t.kind) (numbered (kind_of ts)) ts a rest
        (λ t us e. ap (λ ws. numbered (kind_of ws)) e) (λ e. ap (λ ws. numbered (kind_of ws)) e) h
    sound some each (word value) proper ts a rest h =
        one_token (λ t. worded value t.kind) (worded value (kind_of ts)) ts a rest
        (λ t us e. ap (λ ws. worded value (kind_of ws)) e) (λ e. ap (λ ws. worded value (kind_of ws)) e) h
    sound some each (mark m) proper ts a rest h = one_mark m ts a rest h
    sound some each (part p) proper ts a rest h = each p ts a rest h
    sound some each (starting f) proper ts a rest h =
        let got = sound some each (f (start_of ts)) (proper (start_of ts)).1 ts a rest h in
        (got.0, got.1, begun f a ts rest got.0 (eaten some (f (start_of ts)) a got.0 (proper (start_of ts)).0 got.2) got.1 got.2)
    sound some each (sequence r f) proper ts a rest h =
        let o = bind_ok (read parts r ts) (λ b. read parts (f b)) a rest h in
        let front = sound some each r proper.0 ts o.0 o.1 o.2 in
        let back = sound some each (f o.0) (proper.1 o.0) o.1 a rest o.3 in (
          front.0 ++ back.0,
          front.1 ∙ ap (λ us. front.0 ++ us) back.1 ∙ sym (append_assoc front.0 back.0 rest),
          (o.0, front.0, back.0, refl, front.2, back.2),
        )
    sound some each (either test r s) proper ts a rest h =
        two_fronts (λ xs. Is R r a xs) (λ xs. Is R s a xs) ts rest (chosen (test (kind_of ts)) h)
        (sound some each r proper.0 ts a rest) (sound some each s proper.1 ts a rest)
    sound some each (either_by_two first second r s) proper ts a rest h =
        two_fronts (λ xs. Is R r a xs) (λ xs. Is R s a xs) ts rest (chosen (first (kind_of ts) && second (kind_of (drop 1 ts))) h)
        (sound some each r proper.0 ts a rest) (sound some each s proper.1 ts a rest)
    sound some each (unless test r) proper ts a rest h =
        let o = passed (test (kind_of ts)) (read parts r ts) ts a rest h in
        let got = sound some each r proper.1 ts a rest o.1 in
        (got.0, got.1, excepted test r a ts rest got.0 (eaten some r a got.0 proper.0 got.2) got.1 o.0 got.2)
    sound some each (more found test r) proper ts a rest h =
        all_of test (read parts r) (λ b. Is R r b) (sound some each r proper.1) (length ts) found ts a rest h
