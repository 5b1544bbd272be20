-- Chains of rows.
use Rattle.std.proofs.Common.{◌≡◌, ◌≢◌, ℕ, zero, suc, ◌<◌, ◌≤◌, ◌%◌, inl, inr, Option, Some, None, List, [], ◌∷◌, ◌++◌, length, set, replicate, take, get_or, IfSome, Bool, false, IsTrue, ◌↔◌, refl, sym, ap, ◌∙◌, subst, arith, length-append}
use Rattle.std.proofs.lemmas.Bool.{cases_lt, cases_order}
use Rattle.std.proofs.lemmas.Bool.Decides.{eqb_tells}
use Rattle.std.proofs.lemmas.List.{get_or-map, get_or_append_left, take_all, length-replicate, length-set, get_or-set_same, get_or-set_other, length-map, map-append}
use Rattle.std.proofs.Math.Seq.{get_or-append_seam, take-suc}
use Rattle.ft_common.proofs.Booleans.{false_true}
use Rattle.ft_syntax.specs.Chains.{after, IsLast, HasMark, InBucket, AreLinked, AreChained, marks_of, earlier_of}
use Rattle.ft_syntax.specs.declared.index.Link.{Link}

pub last_or_less : (i j : ℕ) → i < suc j → i ≢ j → i < j
last_or_less i j l n = elim (cases_order i j) [
  | inl e ↦ absurd (n e)
  | inr a ↦ elim a [
    | inl d ↦ d
    | inr d ↦ absurd (omega (arith, d, l))
  ]
]

-- where a list is read
pub mark_within : (ms : List (Option ℕ)) (m p : ℕ) → HasMark ms m p → p < length ms
mark_within [] m p h = cc
mark_within (x ∷ ms) m zero h = omega arith
mark_within (x ∷ ms) m (suc p) h = omega (arith, mark_within ms m p h)

other_default : (xs : List (Option ℕ)) (i : ℕ) (d : Option ℕ) → i < length xs → d ≡ get_or xs i d → get_or xs i None ≡ d
other_default [] i d l h = absurd (omega arith)
other_default (x ∷ xs) zero d l h = sym h
other_default (x ∷ xs) (suc i) d l h = other_default xs i d (omega arith) h

pub place_within : (ls : List Link) (m p : ℕ) → HasMark (marks_of ls) m p → p < length ls
place_within ls m p h = omega (arith, mark_within (marks_of ls) m p h, length-map ls (λ (l : Link). l.mark))

mark_read : (ls : List Link) (p : ℕ) (l : Link) → p < length ls → l ≡ get_or ls p l → get_or (marks_of ls) p None ≡ l.mark
mark_read ls p l i h = get_or-map (λ (l : Link). l.mark) ls p l None i ∙ ap (λ (l : Link). l.mark) (sym h)

earlier_read : (ls : List Link) (p : ℕ) (l : Link) → p < length ls → l ≡ get_or ls p l → get_or (earlier_of ls) p None ≡ l.earlier
earlier_read ls p l i h = get_or-map (λ (l : Link). l.earlier) ls p l None i ∙ ap (λ (l : Link). l.earlier) (sym h)

-- no rows
pub chained_none : AreChained [] [] []
chained_none = record { empty = λ h. h; last = λ b l. absurd (omega arith); linked = record { last = λ p m h. cc } }

pub chained_start : (heads : List (Option ℕ)) (n : ℕ) → heads ≡ replicate n None → AreChained heads [] []
chained_start heads n h = record {
  empty = λ g. refl;
  last = λ b l. record { before = low b; holds = subst (λ r. IfSome r (InBucket [] (length heads) b)) (sym (none b)) tt; none = λ q i j x. absurd (omega arith) };
  linked = record { last = λ p m g. cc };
}
  where
    nothing : (n b : ℕ) → get_or {A = Option ℕ} (replicate n None) b None ≡ None
    nothing zero b = refl
    nothing (suc n) zero = refl
    nothing (suc n) (suc b) = nothing n b

    none : (b : ℕ) → get_or heads b None ≡ None
    none b = ap (λ xs. get_or xs b None) h ∙ nothing n b

    low : (b : ℕ) → after (get_or heads b None) ≤ 0
    low b = subst (λ r. after r ≤ 0) (sym (none b)) (omega arith)

-- the last row of a mark, from the last row of its bucket
carried : (ms : List (Option ℕ)) (n m k : ℕ) (h r : Option ℕ) → IsLast (InBucket ms n (m % n)) k h → IsLast (HasMark ms m) (after h) r → IsLast (HasMark ms m) k r
carried ms n m k h r b l = record {
  before = omega (arith, b.before, l.before);
  holds = l.holds;
  none = λ q i j x. elim (cases_lt q (after h)) [
    | inl c ↦ l.none q i c x
    | inr c ↦ b.none q c j (m, x, refl)
  ];
}

pub last_of_none : (heads ms es : List (Option ℕ)) (n m : ℕ) → AreChained heads ms es → n ≡ length heads → n ≡ 0 → IsLast (HasMark ms m) (length ms) None
last_of_none heads ms es n m c e z = record { before = omega arith; holds = tt; none = λ q i j x. let l = c.empty (sym e ∙ z) in absurd (omega (arith, l, j)) }

head_last : (heads ms es : List (Option ℕ)) (n m b : ℕ) (h : Option ℕ) → AreChained heads ms es → n ≡ length heads → b ≡ m % n → b < n → h ≡ get_or heads b h → IsLast (InBucket ms n (m % n)) (length ms) h
head_last heads ms es n m b h c e q l g =
    let i : b < length heads = omega (arith, e, l) in
    let a : IsLast (InBucket ms (length heads) b) (length ms) h = subst (IsLast (InBucket ms (length heads) b) (length ms)) (other_default heads b h i g) (c.last b i) in
    subst (λ k. IsLast (InBucket ms n k) (length ms) h) q (subst (λ k. IsLast (InBucket ms k b) (length ms) h) (sym e) a)

pub head_there : (heads ms es : List (Option ℕ)) (n m b : ℕ) (h : Option ℕ) → AreChained heads ms es → n ≡ length heads → b ≡ m % n → b < n → h ≡ get_or heads b h → IfSome h (InBucket ms n (m % n))
head_there heads ms es n m b h c e q l g = (head_last heads ms es n m b h c e q l g).holds

pub last_from_head : (heads ms es : List (Option ℕ)) (n m b : ℕ) (h r : Option ℕ) → AreChained heads ms es → n ≡ length heads → b ≡ m % n → b < n → h ≡ get_or heads b h →
    IsLast (HasMark ms m) (after h) r → IsLast (HasMark ms m) (length ms) r
last_from_head heads ms es n m b h r c e q l g k = carried ms n m (length ms) h r (head_last heads ms es n m b h c e q l g) k

pub earlier_last : (ls : List Link) (n m p : ℕ) (l : Link) → AreLinked (marks_of ls) (earlier_of ls) n → HasMark (marks_of ls) m p → l ≡ get_or ls p l → IsLast (InBucket (marks_of ls) n (m % n)) p l.earlier
earlier_last ls n m p l c h g = subst (IsLast (InBucket (marks_of ls) n (m % n)) p) (earlier_read ls p l (place_within ls m p h) g) (c.last p m h)

pub earlier_there : (ls : List Link) (n m p : ℕ) (l : Link) → AreLinked (marks_of ls) (earlier_of ls) n → HasMark (marks_of ls) m p → l ≡ get_or ls p l → IfSome l.earlier (InBucket (marks_of ls) n (m % n))
earlier_there ls n m p l c h g = (earlier_last ls n m p l c h g).holds

pub last_from_earlier : (ls : List Link) (n m p : ℕ) (l : Link) (r : Option ℕ) → AreLinked (marks_of ls) (earlier_of ls) n → HasMark (marks_of ls) m p → l ≡ get_or ls p l →
    IsLast (HasMark (marks_of ls) m) (after l.earlier) r → IsLast (HasMark (marks_of ls) m) p r
last_from_earlier ls n m p l r c h g k = carried (marks_of ls) n m p l.earlier r (earlier_last ls n m p l c h g) k

-- what a test of a mark tells
pub other_mark : (t : Bool) (x : Option ℕ) (m : ℕ) → (IsTrue t ↔ (x ≡ Some m)) → t ≡ false → x ≡ Some m → ⊥
other_mark t x m h f e = false_true (sym f ∙ h.1 e)

-- a walk along a chain
pub record Walked (ms : List (Option ℕ)) (n m : ℕ) (from at : Option ℕ) : Type 0 where
  pub fewer : after at ≤ after from
  pub there : IfSome at (InBucket ms n (m % n))
  pub none : (q : ℕ) → after at ≤ q → q < after from → HasMark ms m q → ⊥

pub walk_start : (ms : List (Option ℕ)) (n m : ℕ) (from : Option ℕ) → IfSome from (InBucket ms n (m % n)) → Walked ms n m from from
walk_start ms n m from h = record { fewer = omega arith; there = h; none = λ q i j x. absurd (omega (arith, i, j)) }

walked_at : (ms : List (Option ℕ)) (n m p : ℕ) (from at : Option ℕ) → Walked ms n m from at → at ≡ Some p → Walked ms n m from (Some p)
walked_at ms n m p from at w e = subst (Walked ms n m from) e w

pub walk_within : (ls : List Link) (n m p : ℕ) (from at : Option ℕ) → Walked (marks_of ls) n m from at → at ≡ Some p → p < length ls
walk_within ls n m p from at w e = let t = (walked_at (marks_of ls) n m p from at w e).there in place_within ls t.0 p t.1

pub walk_found : (ls : List Link) (n m p : ℕ) (l : Link) (from at : Option ℕ) → Walked (marks_of ls) n m from at → at ≡ Some p → l ≡ get_or ls p l → l.mark ≡ Some m → IsLast (HasMark (marks_of ls) m) (after from) (Some p)
walk_found ls n m p l from at w e g s =
    let v = walked_at (marks_of ls) n m p from at w e in
    record { before = v.fewer; holds = mark_read ls p l (walk_within ls n m p from at w e) g ∙ s; none = v.none }

pub walk_more : (ls : List Link) (n m p : ℕ) (l : Link) (from at : Option ℕ) → Walked (marks_of ls) n m from at → AreLinked (marks_of ls) (earlier_of ls) n → at ≡ Some p → l ≡ get_or ls p l → (l.mark ≡ Some m → ⊥) →
    Walked (marks_of ls) n m from l.earlier
walk_more ls n m p l from at w c e g s =
    let v = walked_at (marks_of ls) n m p from at w e in
    let t = v.there in
    let b : IsLast (InBucket (marks_of ls) n (t.0 % n)) p l.earlier = earlier_last ls n t.0 p l c t.1 g in
    record {
      fewer = omega (arith, b.before, v.fewer);
      there = subst (λ k. IfSome l.earlier (InBucket (marks_of ls) n k)) t.2 b.holds;
      none = λ q i j x. elim (cases_order q p) [
        | inl d ↦ s (sym (mark_read ls p l (walk_within ls n m p from at w e) g) ∙ subst (HasMark (marks_of ls) m) d x)
        | inr a ↦ elim a [
          | inl d ↦ b.none q i d (m, x, sym t.2)
          | inr d ↦ v.none q d j x
        ]
      ];
    }

pub walk_falls : (ls : List Link) (n m p : ℕ) (l : Link) (from at : Option ℕ) → Walked (marks_of ls) n m from at → AreLinked (marks_of ls) (earlier_of ls) n → at ≡ Some p → l ≡ get_or ls p l → after l.earlier < after at
walk_falls ls n m p l from at w c e g =
    let t = (walked_at (marks_of ls) n m p from at w e).there in
    let b = earlier_last ls n t.0 p l c t.1 g in
    omega (arith, b.before, ap after e)

pub walk_end : (ms : List (Option ℕ)) (n m : ℕ) (from at : Option ℕ) → Walked ms n m from at → at ≡ None → IsLast (HasMark ms m) (after from) None
walk_end ms n m from at w e = let v = subst (Walked ms n m from) e w in record { before = v.fewer; holds = tt; none = v.none }

-- one more row
marked_before : (ms : List (Option ℕ)) (x : Option ℕ) (m q : ℕ) → q < length ms → HasMark (ms ++ x ∷ []) m q → HasMark ms m q
marked_before ms x m q l h = sym (get_or_append_left ms (x ∷ []) None q l) ∙ h

pub marked_still : (ms : List (Option ℕ)) (x : Option ℕ) (m q : ℕ) → HasMark ms m q → HasMark (ms ++ x ∷ []) m q
marked_still ms x m q h = get_or_append_left ms (x ∷ []) None q (mark_within ms m q h) ∙ h

last_longer : (ms : List (Option ℕ)) (x : Option ℕ) (n b k : ℕ) (r : Option ℕ) → k ≤ length ms → IsLast (InBucket ms n b) k r → IsLast (InBucket (ms ++ x ∷ []) n b) k r
last_longer ms x n b k r l h = record {
  before = h.before;
  holds = go r h.holds;
  none = λ q i j y. h.none q i j (y.0, marked_before ms x y.0 q (omega (arith, l, j)) y.1, y.2);
}
  where
    go : (r : Option ℕ) → IfSome r (InBucket ms n b) → IfSome r (InBucket (ms ++ x ∷ []) n b)
    go None h = tt
    go (Some p) h = (h.0, marked_still ms x h.0 p h.1, h.2)

last_further : (ms : List (Option ℕ)) (x : Option ℕ) (n b : ℕ) (r : Option ℕ) → ((m : ℕ) → x ≡ Some m → m % n ≡ b → ⊥) → IsLast (InBucket ms n b) (length ms) r → IsLast (InBucket (ms ++ x ∷ []) n b) (length (ms ++ x ∷ [])) r
last_further ms x n b r o h =
    let k = last_longer ms x n b (length ms) r (omega arith) h in
    let long : length (ms ++ x ∷ []) ≡ suc (length ms) = omega (arith, length-append ms (x ∷ [])) in
    record {
      before = omega (arith, k.before, long);
      holds = k.holds;
      none = λ q i j y. elim (eqb_tells q (length ms)) [
        | inl e ↦ o y.0 (sym (get_or-append_seam ms x [] None) ∙ subst (HasMark (ms ++ x ∷ []) y.0) e.1 y.1) y.2
        | inr e ↦ k.none q i (last_or_less q (length ms) (omega (arith, j, long)) e.1) y
      ];
    }

linked_more : (ms es : List (Option ℕ)) (x e : Option ℕ) (n : ℕ) → length es ≡ length ms → ((m : ℕ) → x ≡ Some m → IsLast (InBucket ms n (m % n)) (length ms) e) → AreLinked ms es n → AreLinked (ms ++ x ∷ []) (es ++ e ∷ []) n
linked_more ms es x e n s f h = record {
  last = λ p m y. elim (eqb_tells p (length ms)) [
    | inl d ↦
        let is : x ≡ Some m = sym (get_or-append_seam ms x [] None) ∙ subst (HasMark (ms ++ x ∷ []) m) d.1 y in
        let at : get_or (es ++ e ∷ []) p None ≡ e = ap (λ k. get_or (es ++ e ∷ []) k None) (d.1 ∙ sym s) ∙ get_or-append_seam es e [] None in
        subst (IsLast (InBucket (ms ++ x ∷ []) n (m % n)) p) (sym at) (subst (λ k. IsLast (InBucket (ms ++ x ∷ []) n (m % n)) k e) (sym d.1) (last_longer ms x n (m % n) (length ms) e (omega arith) (f m is)))
    | inr d ↦
        let l : p < length ms = less p m (length ms) d.1 y in
        let at : get_or (es ++ e ∷ []) p None ≡ get_or es p None = get_or_append_left es (e ∷ []) None p (omega (arith, l, s)) in
        subst (IsLast (InBucket (ms ++ x ∷ []) n (m % n)) p) (sym at) (last_longer ms x n (m % n) p (get_or es p None) (omega (arith, l)) (h.last p m (marked_before ms x m p l y)))
  ];
}
  where
    less : (p m k : ℕ) → p ≢ length ms → HasMark (ms ++ x ∷ []) m p → p < length ms
    less p m k d y = last_or_less p (length ms) (omega (arith, mark_within (ms ++ x ∷ []) m p y, length-append ms (x ∷ []))) d

as_long : (ls : List Link) → length (earlier_of ls) ≡ length (marks_of ls)
as_long ls = length-map ls (λ (l : Link). l.earlier) ∙ sym (length-map ls (λ (l : Link). l.mark))

pub marks_more : (ls now : List Link) (l : Link) → now ≡ ls ++ l ∷ [] → marks_of now ≡ marks_of ls ++ l.mark ∷ []
marks_more ls now l h = ap marks_of h ∙ map-append (λ (l : Link). l.mark) ls (l ∷ [])

earlier_more : (ls now : List Link) (l : Link) → now ≡ ls ++ l ∷ [] → earlier_of now ≡ earlier_of ls ++ l.earlier ∷ []
earlier_more ls now l h = ap earlier_of h ∙ map-append (λ (l : Link). l.earlier) ls (l ∷ [])

pub chained_unmarked : (heads : List (Option ℕ)) (ls now : List Link) (l : Link) → now ≡ ls ++ l ∷ [] → l.mark ≡ None → 0 < length heads → AreChained heads (marks_of ls) (earlier_of ls) → AreChained heads (marks_of now) (earlier_of now)
chained_unmarked heads ls now l h u p c =
    let ms = marks_of ls in let es = earlier_of ls in
    subst (λ xs. AreChained heads xs (earlier_of now)) (sym (marks_more ls now l h)) (subst (AreChained heads (ms ++ l.mark ∷ [])) (sym (earlier_more ls now l h)) (record {
      empty = λ z. absurd (omega (arith, z, p));
      last = λ b i. last_further ms l.mark (length heads) b (get_or heads b None) (λ m e d. let bad : None ≡ Some m = sym u ∙ e in cc) (c.last b i);
      linked = linked_more ms es l.mark l.earlier (length heads) (as_long ls) (λ m e. let bad : None ≡ Some m = sym u ∙ e in cc) c.linked;
    }))

pub chained_marked : (heads next : List (Option ℕ)) (ls now : List Link) (l : Link) (m b k : ℕ) → now ≡ ls ++ l ∷ [] → l.mark ≡ Some m → k ≡ length ls → b ≡ m % length heads → b < length heads → l.earlier ≡ get_or heads b l.earlier →
    next ≡ set heads b (Some k) → AreChained heads (marks_of ls) (earlier_of ls) → AreChained next (marks_of now) (earlier_of now)
chained_marked heads next ls now l m b k h u s r i g t c =
    let ms = marks_of ls in let es = earlier_of ls in let n = length heads in
    let long : length (set heads b (Some k)) ≡ n = length-set heads b (Some k) in
    let place : k ≡ length ms = s ∙ sym (length-map ls (λ (l : Link). l.mark)) in
    let head : IsLast (InBucket ms n (m % n)) (length ms) l.earlier = head_last heads ms es n m b l.earlier c refl r i g in
    let known : (j : ℕ) → l.mark ≡ Some j → j ≡ m = λ j e. some_same j m (sym e ∙ u) in
    subst (λ hs. AreChained hs (marks_of now) (earlier_of now)) (sym t)
    (subst (λ xs. AreChained (set heads b (Some k)) xs (earlier_of now)) (sym (marks_more ls now l h)) (subst (AreChained (set heads b (Some k)) (ms ++ l.mark ∷ [])) (sym (earlier_more ls now l h)) (record {
      empty = λ z. absurd (omega (arith, z, long, i));
      last = λ a j. subst (λ n. IsLast (InBucket (ms ++ l.mark ∷ []) n a) (length (ms ++ l.mark ∷ [])) (get_or (set heads b (Some k)) a None)) (sym long) (elim (eqb_tells a b) [
        | inl e ↦
            let at : get_or (set heads b (Some k)) a None ≡ Some (length ms) = ap (λ d. get_or (set heads b (Some k)) d None) e.1 ∙ get_or-set_same heads b (Some k) None i ∙ ap Some place in
            subst (IsLast (InBucket (ms ++ l.mark ∷ []) n a) (length (ms ++ l.mark ∷ []))) (sym at) (record {
              before = omega (arith, length-append ms (l.mark ∷ []));
              holds = (m, get_or-append_seam ms l.mark [] None ∙ u, sym r ∙ sym e.1);
              none = λ q v w y. absurd (omega (arith, v, w, length-append ms (l.mark ∷ [])));
            })
        | inr e ↦ subst (IsLast (InBucket (ms ++ l.mark ∷ []) n a) (length (ms ++ l.mark ∷ []))) (sym (get_or-set_other heads b a (Some k) None e.1))
            (last_further ms l.mark n a (get_or heads a None) (λ d v w. e.1 (sym w ∙ ap (λ c. c % n) (known d v) ∙ sym r)) (c.last a (omega (arith, j, long))))
      ]);
      linked = subst (AreLinked (ms ++ l.mark ∷ []) (es ++ l.earlier ∷ [])) (sym long)
          (linked_more ms es l.mark l.earlier n (as_long ls) (λ d v. subst (λ d. IsLast (InBucket ms n (d % n)) (length ms) l.earlier) (sym (known d v)) head) c.linked);
    })))
  where
    some_same : (i j : ℕ) → Some i ≡ Some j → i ≡ j
    some_same i j h = cc

-- the first i rows are chained anew
pub record Relinked (ls : List Link) (i : ℕ) (heads : List (Option ℕ)) (now : List Link) : Type 0 where
  pub some : 0 < length heads
  pub marks : marks_of now ≡ take i (marks_of ls)
  pub chained : AreChained heads (marks_of now) (earlier_of now)

pub relink_start : (ls : List Link) (heads : List (Option ℕ)) (n : ℕ) → heads ≡ replicate n None → 0 < n → Relinked ls 0 heads []
relink_start ls heads n h l = record { some = omega (arith, ap length h, length-replicate {A = Option ℕ} n None, l); marks = refl; chained = chained_start heads n h }

pub relink_more : (ls now next : List Link) (i : ℕ) (heads others : List (Option ℕ)) (l : Link) → Relinked ls i heads now → i < length ls → l ≡ get_or ls i l → length others ≡ length heads → AreChained others (marks_of next) (earlier_of next) →
    marks_of next ≡ marks_of now ++ l.mark ∷ [] → Relinked ls (suc i) others next
relink_more ls now next i heads others l r j g n c m = record {
  some = omega (arith, n, r.some);
  marks = m ∙ ap (λ xs. xs ++ l.mark ∷ []) r.marks ∙ sym (take-suc (marks_of ls) i l.mark (omega (arith, j, length-map ls (λ (l : Link). l.mark))) ∙ ap (λ x. take i (marks_of ls) ++ x ∷ []) (get_or-map (λ (l : Link). l.mark) ls i l l.mark j ∙ ap (λ (l : Link). l.mark) (sym g)));
  chained = c;
}

pub relinked_all : (ls now : List Link) (i : ℕ) (heads : List (Option ℕ)) → Relinked ls i heads now → length ls ≤ i → marks_of now ≡ marks_of ls
relinked_all ls now i heads r l = r.marks ∙ take_all i (marks_of ls) (omega (arith, l, length-map ls (λ (l : Link). l.mark)))
