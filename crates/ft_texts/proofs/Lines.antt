-- A line tells its item, and the text of a list tells the list.
use Rattle.std.proofs.Common.{◌≡◌, ℕ, ◌<◌, Bool, true, false, List, [], ◌∷◌, ◌++◌, refl, sym, ap, ap₂, ◌∙◌, append_assoc, append-nil, arith}
use Rattle.std.specs.Prelude.{codes, map, cond}
use Rattle.std.specs.Fmt.{decimal}
use Rattle.std.specs.Str.{encode_utf8_all}
use Rattle.std.proofs.lemmas.Fmt.{decimal_injective}
use Rattle.std.proofs.lemmas.Str.{encodes_same}
use Rattle.std.proofs.lemmas.List.{append_cancel_left}
use Rattle.ft_theory.specs.Statements.{Statement}
use Rattle.ft_items.specs.Sets.{Atom}
use Rattle.ft_items.specs.Equal.{is_thesis}
use Rattle.ft_items.specs.Item.{Stated, Name, Entry, Item, variable, metavariable, rule, entry, shown}
use Rattle.ft_items.specs.Texts.{statement_text, set_text, step_text, line_text, lines_text, text_of, NumberFits, EachNumberFits, EntryFits, ItemFits, ItemsFit}
use Rattle.ft_texts.specs.Laws.{Visible, AtMostOneText, AtMostOneList, HasText}
use Rattle.ft_texts.proofs.Pieces.{head_same, heads_apart, after_first, decimal_begins}
use Rattle.ft_texts.proofs.Statements.{after_spaces, statement_same, set_same}
use Rattle.ft_texts.proofs.Steps.{AllVisible, decimal_visible, spaced_same, first_text, other_texts, texts_of_step, texts_visible, step_same}

-- the letter of an entry's line: J for a thesis, B for a boundary
abbrev entry_mark : Bool → ℕ
entry_mark true = 74
entry_mark false = 66

-- the first letter of a line
abbrev line_letter : Item → ℕ
line_letter (variable v n p) = 86
line_letter (metavariable n p) = 77
line_letter (rule n ms p) = 82
line_letter (entry e) = entry_mark (is_thesis e.statement)
line_letter (shown p) = 87

-- the texts of a rule's metavariables and of its conclusion
abbrev pub rule_texts : List ℕ → ℕ → List (List ℕ)
rule_texts ms p = map decimal ms ++ (codes ";" ∷ decimal p ∷ [])

-- what stands after the letter
abbrev line_rest : Item → List ℕ
line_rest (variable v n p) = after_spaces (decimal v ∷ n ∷ decimal p ∷ [])
line_rest (metavariable n p) = after_spaces (n ∷ decimal p ∷ [])
line_rest (rule n ms p) = after_spaces (n ∷ rule_texts ms p)
line_rest (entry e) = after_spaces (statement_text e.statement ∷ set_text e.set ∷ step_text e.step ∷ [])
line_rest (shown p) = after_spaces (decimal p ∷ [])

line_parts : (i : Item) → line_text i ≡ line_letter i ∷ line_rest i
line_parts (variable v n p) = refl
line_parts (metavariable n p) = refl
line_parts (rule n ms p) = refl
line_parts (entry e) = go (is_thesis e.statement)
  where
    go : (b : Bool) → cond b (codes "J") (codes "B") ++ line_rest (entry e) ≡ entry_mark b ∷ line_rest (entry e)
    go true = refl
    go false = refl
line_parts (shown p) = refl

-- two numbers by their texts
number_same : (m n : ℕ) → NumberFits m → NumberFits n → decimal m ≡ decimal n → m ≡ n
number_same m n a b e = decimal_injective m n a b e

-- a number is no semicolon
no_mark : {A : Type 0} (n : ℕ) → NumberFits n → decimal n ≡ codes ";" → A
no_mark n h e = absurd (decimal_begins n [] 59 [] h (λ a b. omega (arith, b)) (ap (λ z. z ++ []) e))

-- a rule's metavariables and its conclusion
rule_same : (ms ns : List ℕ) (p q : ℕ) → EachNumberFits ms → EachNumberFits ns → NumberFits p → NumberFits q → rule_texts ms p ≡ rule_texts ns q → (ms ≡ ns) × (p ≡ q)
rule_same [] [] p q a b c d e = (refl, number_same p q c d (first_text (decimal p) (decimal q) [] [] (other_texts (codes ";") (codes ";") (decimal p ∷ []) (decimal q ∷ []) e)))
rule_same [] (n ∷ ns) p q a b c d e = no_mark n b.0 (sym (first_text (codes ";") (decimal n) (decimal p ∷ []) (rule_texts ns q) e))
rule_same (m ∷ ms) [] p q a b c d e = no_mark m a.0 (first_text (decimal m) (codes ";") (rule_texts ms p) (decimal q ∷ []) e)
rule_same (m ∷ ms) (n ∷ ns) p q a b c d e =
    let i : (ms ≡ ns) × (p ≡ q) = rule_same ms ns p q a.1 b.1 c d (other_texts (decimal m) (decimal n) (rule_texts ms p) (rule_texts ns q) e) in
    (ap₂ (λ z zs. z ∷ zs) (number_same m n a.0 b.0 (first_text (decimal m) (decimal n) (rule_texts ms p) (rule_texts ns q) e)) i.0, i.1)

pub rule_visible : (ms : List ℕ) (p : ℕ) → EachNumberFits ms → NumberFits p → AllVisible (rule_texts ms p)
rule_visible [] p a c = ((omega arith, tt), (decimal_visible p c, tt))
rule_visible (m ∷ ms) p a c = (decimal_visible m a.0, rule_visible ms p a.1 c)

-- the rest of an entry's line
entry_then : (xs ys zs r : List ℕ) → after_spaces (xs ∷ ys ∷ zs ∷ []) ++ r ≡ 32 ∷ (xs ++ (32 ∷ (ys ++ ((32 ∷ (zs ++ [])) ++ r))))
entry_then xs ys zs r = ap (λ z. 32 ∷ z) (append_assoc xs (32 ∷ (ys ++ (32 ∷ (zs ++ [])))) r ∙ ap (λ z. xs ++ (32 ∷ z)) (append_assoc ys (32 ∷ (zs ++ [])) r))

same_entry : (e f : Entry) → e.statement ≡ f.statement → e.set ≡ f.set → e.step ≡ f.step → entry e ≡ entry f
same_entry e f p q r = go e.statement f.statement e.set f.set e.step f.step p q r
  where
    go : (x y : Statement) (S R : List Atom) (s t : Stated) → x ≡ y → S ≡ R → s ≡ t → entry (record { statement = x; set = S; step = s }) ≡ entry (record { statement = y; set = R; step = t })
    go x y S R s t p q r = cc

entry_same : (e f : Entry) (r s : List ℕ) → is_thesis e.statement ≡ is_thesis f.statement → EntryFits e → EntryFits f
    → line_rest (entry e) ++ (10 ∷ r) ≡ line_rest (entry f) ++ (10 ∷ s) → (entry e ≡ entry f) × (r ≡ s)
entry_same e f r s k a b q =
    let v : List ℕ = after_spaces (texts_of_step e.step) ++ (10 ∷ r) in
    let w : List ℕ = after_spaces (texts_of_step f.step) ++ (10 ∷ s) in
    let nil : (z t : List ℕ) → (32 ∷ (z ++ [])) ++ t ≡ (32 ∷ z) ++ t = λ z t. ap (λ u. (32 ∷ u) ++ t) (append-nil z) in
    let q' : statement_text e.statement ++ (32 ∷ (set_text e.set ++ v)) ≡ statement_text f.statement ++ (32 ∷ (set_text f.set ++ w)) =
    ap (λ z. statement_text e.statement ++ (32 ∷ (set_text e.set ++ z))) (sym (nil (step_text e.step) (10 ∷ r)))
    ∙ after_first (sym (entry_then (statement_text e.statement) (set_text e.set) (step_text e.step) (10 ∷ r)) ∙ q ∙ entry_then (statement_text f.statement) (set_text f.set) (step_text f.step) (10 ∷ s))
    ∙ ap (λ z. statement_text f.statement ++ (32 ∷ (set_text f.set ++ z))) (nil (step_text f.step) (10 ∷ s)) in
    let i : (e.statement ≡ f.statement) × ((set_text e.set ++ v) ≡ (set_text f.set ++ w)) = statement_same e.statement f.statement 0 0 (set_text e.set ++ v) (set_text f.set ++ w) k a.statement b.statement q' in
    let j : (e.set ≡ f.set) × (v ≡ w) = set_same e.set f.set v w a.set b.set i.1 in
    let l : (texts_of_step e.step ≡ texts_of_step f.step) × (r ≡ s) = spaced_same (texts_of_step e.step) (texts_of_step f.step) r s (texts_visible e.step a.step) (texts_visible f.step b.step) j.1 in
    (same_entry e f i.0 j.0 (step_same e.step f.step a.step b.step l.0), l.1)

-- whether a line is that of a thesis is told by its letter
thesis_told : (a b : Bool) → entry_mark a ≡ entry_mark b → a ≡ b
thesis_told true true e = refl
thesis_told true false e = absurd (omega (arith, e))
thesis_told false true e = absurd (omega (arith, e))
thesis_told false false e = refl

-- an entry's letter is no other line's
entry_letter : {A : Type 0} (b : Bool) (c : ℕ) → 74 < c → entry_mark b ≡ c → A
entry_letter true c h e = absurd (omega (arith, h, e))
entry_letter false c h e = absurd (omega (arith, h, e))

-- the rests of two lines with one letter, up to the end of the line
rest_same : (is_name : Name → Bool) → ((n : Name) → is_name n ≡ true → Visible n) → (i j : Item) (r s : List ℕ) → ItemFits is_name i → ItemFits is_name j
    → line_letter i ≡ line_letter j → line_rest i ++ (10 ∷ r) ≡ line_rest j ++ (10 ∷ s) → (i ≡ j) × (r ≡ s)
rest_same N shows (variable v n p) (variable w m q) r s a b l e =
    let i : ((decimal v ∷ n ∷ decimal p ∷ []) ≡ (decimal w ∷ m ∷ decimal q ∷ [])) × (r ≡ s) = spaced_same (decimal v ∷ n ∷ decimal p ∷ []) (decimal w ∷ m ∷ decimal q ∷ []) r s
    (decimal_visible v a.0, (shows n a.1, (decimal_visible p a.2, tt))) (decimal_visible w b.0, (shows m b.1, (decimal_visible q b.2, tt))) e in
    let t : (n ∷ decimal p ∷ []) ≡ (m ∷ decimal q ∷ []) = other_texts (decimal v) (decimal w) (n ∷ decimal p ∷ []) (m ∷ decimal q ∷ []) i.0 in (
      same v w n m p q (number_same v w a.0 b.0 (first_text (decimal v) (decimal w) (n ∷ decimal p ∷ []) (m ∷ decimal q ∷ []) i.0)) (first_text n m (decimal p ∷ []) (decimal q ∷ []) t)
          (number_same p q a.2 b.2 (first_text (decimal p) (decimal q) [] [] (other_texts n m (decimal p ∷ []) (decimal q ∷ []) t))),
      i.1,
    )
  where
    same : (v w : ℕ) (n m : Name) (p q : ℕ) → v ≡ w → n ≡ m → p ≡ q → variable v n p ≡ variable w m q
    same v w n m p q e f g = cc
rest_same N shows (metavariable n p) (metavariable m q) r s a b l e =
    let i : ((n ∷ decimal p ∷ []) ≡ (m ∷ decimal q ∷ [])) × (r ≡ s) = spaced_same (n ∷ decimal p ∷ []) (m ∷ decimal q ∷ []) r s
    (shows n a.0, (decimal_visible p a.1, tt)) (shows m b.0, (decimal_visible q b.1, tt)) e in (
      ap₂ metavariable (first_text n m (decimal p ∷ []) (decimal q ∷ []) i.0)
          (number_same p q a.1 b.1 (first_text (decimal p) (decimal q) [] [] (other_texts n m (decimal p ∷ []) (decimal q ∷ []) i.0))),
      i.1,
    )
rest_same N shows (rule n ms p) (rule m ns q) r s a b l e =
    let i : ((n ∷ rule_texts ms p) ≡ (m ∷ rule_texts ns q)) × (r ≡ s) = spaced_same (n ∷ rule_texts ms p) (m ∷ rule_texts ns q) r s
    (shows n a.0, rule_visible ms p a.1 a.2) (shows m b.0, rule_visible ns q b.1 b.2) e in
    let j : (ms ≡ ns) × (p ≡ q) = rule_same ms ns p q a.1 b.1 a.2 b.2 (other_texts n m (rule_texts ms p) (rule_texts ns q) i.0) in
    (same n m ms ns p q (first_text n m (rule_texts ms p) (rule_texts ns q) i.0) j.0 j.1, i.1)
  where
    same : (n m : Name) (ms ns : List ℕ) (p q : ℕ) → n ≡ m → ms ≡ ns → p ≡ q → rule n ms p ≡ rule m ns q
    same n m ms ns p q e f g = cc
rest_same N shows (entry x) (entry y) r s a b l e = entry_same x y r s (thesis_told (is_thesis x.statement) (is_thesis y.statement) l) a b e
rest_same N shows (shown p) (shown q) r s a b l e =
    let i : ((decimal p ∷ []) ≡ (decimal q ∷ [])) × (r ≡ s) = spaced_same (decimal p ∷ []) (decimal q ∷ []) r s (decimal_visible p a, tt) (decimal_visible q b, tt) e in
    (ap shown (number_same p q a b (first_text (decimal p) (decimal q) [] [] i.0)), i.1)
rest_same N shows (variable v n p) (metavariable m q) r s a b l e = absurd (omega (arith, l))
rest_same N shows (variable v n p) (rule m ns q) r s a b l e = absurd (omega (arith, l))
rest_same N shows (variable v n p) (entry y) r s a b l e = entry_letter (is_thesis y.statement) 86 (omega arith) (sym l)
rest_same N shows (variable v n p) (shown q) r s a b l e = absurd (omega (arith, l))
rest_same N shows (metavariable n p) (variable w m q) r s a b l e = absurd (omega (arith, l))
rest_same N shows (metavariable n p) (rule m ns q) r s a b l e = absurd (omega (arith, l))
rest_same N shows (metavariable n p) (entry y) r s a b l e = entry_letter (is_thesis y.statement) 77 (omega arith) (sym l)
rest_same N shows (metavariable n p) (shown q) r s a b l e = absurd (omega (arith, l))
rest_same N shows (rule n ms p) (variable w m q) r s a b l e = absurd (omega (arith, l))
rest_same N shows (rule n ms p) (metavariable m q) r s a b l e = absurd (omega (arith, l))
rest_same N shows (rule n ms p) (entry y) r s a b l e = entry_letter (is_thesis y.statement) 82 (omega arith) (sym l)
rest_same N shows (rule n ms p) (shown q) r s a b l e = absurd (omega (arith, l))
rest_same N shows (entry x) (variable w m q) r s a b l e = entry_letter (is_thesis x.statement) 86 (omega arith) l
rest_same N shows (entry x) (metavariable m q) r s a b l e = entry_letter (is_thesis x.statement) 77 (omega arith) l
rest_same N shows (entry x) (rule m ns q) r s a b l e = entry_letter (is_thesis x.statement) 82 (omega arith) l
rest_same N shows (entry x) (shown q) r s a b l e = entry_letter (is_thesis x.statement) 87 (omega arith) l
rest_same N shows (shown p) (variable w m q) r s a b l e = absurd (omega (arith, l))
rest_same N shows (shown p) (metavariable m q) r s a b l e = absurd (omega (arith, l))
rest_same N shows (shown p) (rule m ns q) r s a b l e = absurd (omega (arith, l))
rest_same N shows (shown p) (entry y) r s a b l e = entry_letter (is_thesis y.statement) 87 (omega arith) (sym l)

-- two lines
pub line_same : (is_name : Name → Bool) → ((n : Name) → is_name n ≡ true → Visible n) → (i j : Item) (r s : List ℕ) → ItemFits is_name i → ItemFits is_name j
    → line_text i ++ (10 ∷ r) ≡ line_text j ++ (10 ∷ s) → (i ≡ j) × (r ≡ s)
line_same N shows i j r s a b q =
    let e : (line_letter i ∷ (line_rest i ++ (10 ∷ r))) ≡ (line_letter j ∷ (line_rest j ++ (10 ∷ s))) = sym (ap (λ z. z ++ (10 ∷ r)) (line_parts i)) ∙ q ∙ ap (λ z. z ++ (10 ∷ s)) (line_parts j) in
    rest_same N shows i j r s a b (head_same (line_letter i) (line_letter j) (line_rest i ++ (10 ∷ r)) (line_rest j ++ (10 ∷ s)) e) (after_first e)

-- no line is `end`
letter_low : (i : Item) → line_letter i < 101
letter_low (variable v n p) = omega arith
letter_low (metavariable n p) = omega arith
letter_low (rule n ms p) = omega arith
letter_low (entry e) = go (is_thesis e.statement)
  where
    go : (b : Bool) → entry_mark b < 101
    go true = omega arith
    go false = omega arith
letter_low (shown p) = omega arith

pub no_end : {A : Type 0} (i : Item) (r s : List ℕ) → 101 ∷ s ≡ line_text i ++ r → A
no_end i r s q = heads_apart {c = 101} {d = line_letter i} {cs = s} {ds = line_rest i ++ r} (λ e. omega (arith, e, letter_low i)) (q ∙ ap (λ z. z ++ r) (line_parts i))

-- the lines of two lists
pub lines_same : (is_name : Name → Bool) → ((n : Name) → is_name n ≡ true → Visible n) → (xs ys : List Item) → ItemsFit is_name xs → ItemsFit is_name ys
    → lines_text xs ≡ lines_text ys → xs ≡ ys
lines_same N shows [] [] a b q = refl
lines_same N shows [] (j ∷ ys) a b q = no_end j (10 ∷ lines_text ys) (110 ∷ 100 ∷ 10 ∷ []) (q ∙ append_assoc (line_text j) (10 ∷ []) (lines_text ys))
lines_same N shows (i ∷ xs) [] a b q = no_end i (10 ∷ lines_text xs) (110 ∷ 100 ∷ 10 ∷ []) (sym q ∙ append_assoc (line_text i) (10 ∷ []) (lines_text xs))
lines_same N shows (i ∷ xs) (j ∷ ys) a b q =
    let l : (i ≡ j) × (lines_text xs ≡ lines_text ys) = line_same N shows i j (lines_text xs) (lines_text ys) a.0 b.0
    (sym (append_assoc (line_text i) (10 ∷ []) (lines_text xs)) ∙ q ∙ append_assoc (line_text j) (10 ∷ []) (lines_text ys)) in
    ap₂ (λ z zs. z ∷ zs) l.0 (lines_same N shows xs ys a.1 b.1 l.1)

pub at_most_one_text : AtMostOneText
at_most_one_text is_name items bytes others a b = a.1 ∙ sym b.1

pub at_most_one_list : AtMostOneList
at_most_one_list is_name shows bytes items others a b =
    lines_same is_name shows items others a.0 b.0 (append_cancel_left (codes "andromeda derivation 1\n") (lines_text items) (lines_text others) (encodes_same (text_of items) (text_of others) (sym a.1 ∙ b.1)))

pub has_text : HasText
has_text is_name items h = (encode_utf8_all (text_of items), (h, refl))
