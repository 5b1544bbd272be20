-- The text of a step tells the step, and pieces of visible characters are told by the spaces between them.
use Rattle.std.proofs.Common.{◌≡◌, ℕ, ◌≤◌, ◌<◌, Bool, true, List, [], ◌∷◌, ◌++◌, refl, sym, ap, ap₂, ◌∙◌, append_assoc, arith}
use Rattle.std.specs.Prelude.{codes, map, cond, nat_lt, ◌&&◌}
use Rattle.std.specs.Fmt.{decimal}
use Rattle.std.proofs.lemmas.Fmt.{decimal_injective}
use Rattle.std.proofs.lemmas.Bool.{ltb-true, and_parts}
use Rattle.ft_items.specs.Good.{equal_names}
use Rattle.ft_items.specs.Item.{Stated, by_var, by_generic, by_meta, by_metacong, by_abs, by_subst, by_substeq, by_refl, by_sym, by_trans, by_conv, by_conveq, by_left, by_right, by_typeof, by_domain, by_boundary, by_widen, by_btype, by_bterm, by_beqty, by_beqtm, by_rule, by_rulewith, by_inst, by_cong, by_convprem, by_convback, by_arg, by_natural, by_metainst}
use Rattle.ft_items.specs.Texts.{Part, number, slash, part_text, written, PartsFit, NumberFits}
use Rattle.ft_texts.specs.Laws.{Visible}
use Rattle.ft_texts.proofs.Pieces.{Each, Begins, IsDigit, front_same, decimal_digits, decimal_begins, heads_apart, after_first}
use Rattle.ft_texts.proofs.Statements.{after_spaces}

-- each of these texts has visible characters alone
abbrev pub AllVisible : List (List ℕ) → Type 0
AllVisible [] = Unit {0}
AllVisible (x ∷ xs) = Visible x × AllVisible xs

visible_each : (x : List ℕ) → Visible x → Each (λ c. 32 < c) x
visible_each [] h = tt
visible_each (c ∷ cs) h = (h.0, visible_each cs h.1)

digits_visible : (x : List ℕ) → Each IsDigit x → Visible x
digits_visible [] h = tt
digits_visible (c ∷ cs) h = (omega (arith, h.0.0), digits_visible cs h.1)

pub decimal_visible : (n : ℕ) → NumberFits n → Visible (decimal n)
decimal_visible n h = digits_visible (decimal n) (decimal_digits n h)

spaces_then : (xs : List (List ℕ)) (r : List ℕ) → Begins (λ c. c ≤ 32) (after_spaces xs ++ (10 ∷ r))
spaces_then [] r = omega arith
spaces_then (x ∷ xs) r = omega arith

pub cons_texts : (x y : List ℕ) (xs ys : List (List ℕ)) → x ≡ y → xs ≡ ys → (x ∷ xs) ≡ (y ∷ ys)
cons_texts x y xs ys p q = cc

-- visible texts, each after a space, up to the end of the line
pub spaced_same : (xs ys : List (List ℕ)) (r s : List ℕ) → AllVisible xs → AllVisible ys → after_spaces xs ++ (10 ∷ r) ≡ after_spaces ys ++ (10 ∷ s) → (xs ≡ ys) × (r ≡ s)
spaced_same [] [] r s a b q = (refl, after_first q)
spaced_same [] (y ∷ ys) r s a b q = heads_apart (λ e. omega (arith, e)) q
spaced_same (x ∷ xs) [] r s a b q = heads_apart (λ e. omega (arith, e)) q
spaced_same (x ∷ xs) (y ∷ ys) r s a b q =
    let v : List ℕ = after_spaces xs ++ (10 ∷ r) in
    let w : List ℕ = after_spaces ys ++ (10 ∷ s) in
    let i : (x ≡ y) × (v ≡ w) = front_same (λ c. 32 < c) (λ c. c ≤ 32) (λ c d f. omega (arith, d, f)) x y v w (visible_each x a.0) (visible_each y b.0) (spaces_then xs r) (spaces_then ys s)
    (sym (append_assoc x (after_spaces xs) (10 ∷ r)) ∙ after_first q ∙ append_assoc y (after_spaces ys) (10 ∷ s)) in
    let j : (xs ≡ ys) × (r ≡ s) = spaced_same xs ys r s a.1 b.1 i.1 in
    (cons_texts x y xs ys i.0 j.0, j.1)

-- the parts of a step, visible
parts_visible : (ps : List Part) → PartsFit ps → AllVisible (map part_text ps)
parts_visible [] h = tt
parts_visible (number n ∷ ps) h = (decimal_visible n h.0, parts_visible ps h.1)
parts_visible (slash ∷ ps) h = ((omega arith, tt), parts_visible ps h)

pub first_text : (x y : List ℕ) (xs ys : List (List ℕ)) → (x ∷ xs) ≡ (y ∷ ys) → x ≡ y
first_text x y xs ys e = cc

pub other_texts : (x y : List ℕ) (xs ys : List (List ℕ)) → (x ∷ xs) ≡ (y ∷ ys) → xs ≡ ys
other_texts x y xs ys e = cc

pub no_texts : {A : Type 0} (y : List ℕ) (ys : List (List ℕ)) → [] ≡ (y ∷ ys) → A
no_texts {A} y ys e = absurd (clash e)
  where
    clash : [] ≡ (y ∷ ys) → ⊥
    clash e = cc

cons_parts : (p q : Part) (ps qs : List Part) → p ≡ q → ps ≡ qs → (p ∷ ps) ≡ (q ∷ qs)
cons_parts p q ps qs e f = cc

-- a number is no slash
no_slash : {A : Type 0} (n : ℕ) → NumberFits n → decimal n ≡ codes "/" → A
no_slash n h e = absurd (decimal_begins n [] 47 [] h (λ a b. omega (arith, a)) (ap (λ z. z ++ []) e))

-- the parts are told by their texts
parts_same : (ps qs : List Part) → PartsFit ps → PartsFit qs → map part_text ps ≡ map part_text qs → ps ≡ qs
parts_same [] [] a b e = refl
parts_same [] (q ∷ qs) a b e = no_texts (part_text q) (map part_text qs) e
parts_same (p ∷ ps) [] a b e = no_texts (part_text p) (map part_text ps) (sym e)
parts_same (number m ∷ ps) (number n ∷ qs) a b e = cons_parts (number m) (number n) ps qs
    (ap number (decimal_injective m n a.0 b.0 (first_text (decimal m) (decimal n) (map part_text ps) (map part_text qs) e)))
    (parts_same ps qs a.1 b.1 (other_texts (decimal m) (decimal n) (map part_text ps) (map part_text qs) e))
parts_same (number m ∷ ps) (slash ∷ qs) a b e = no_slash m a.0 (first_text (decimal m) (codes "/") (map part_text ps) (map part_text qs) e)
parts_same (slash ∷ ps) (number n ∷ qs) a b e = no_slash n b.0 (sym (first_text (codes "/") (decimal n) (map part_text ps) (map part_text qs) e))
parts_same (slash ∷ ps) (slash ∷ qs) a b e = cons_parts slash slash ps qs refl (parts_same ps qs a b (other_texts (codes "/") (codes "/") (map part_text ps) (map part_text qs) e))

-- The step that a word and parts tell.

-- the number that stands first
abbrev first : List Part → ℕ
first [] = 0
first (number n ∷ ps) = n
first (slash ∷ ps) = 0

-- without the first part
abbrev later : List Part → List Part
later [] = []
later (p ∷ ps) = ps

-- the numbers up to the first slash
abbrev numbers : List Part → List ℕ
numbers [] = []
numbers (number n ∷ ps) = n ∷ numbers ps
numbers (slash ∷ ps) = []

-- what stands after the first slash
abbrev beyond : List Part → List Part
beyond [] = []
beyond (number n ∷ ps) = beyond ps
beyond (slash ∷ ps) = ps

abbrev step_from : List ℕ → List Part → Stated
step_from w ps =
    cond (equal_names w (codes "var")) (by_var (first ps))
    (cond (equal_names w (codes "generic")) (by_generic (first ps))
    (cond (equal_names w (codes "meta")) (by_meta (first ps) (numbers (later ps)))
    (cond (equal_names w (codes "metacong")) (by_metacong (first ps) (numbers (later ps)))
    (cond (equal_names w (codes "abs")) (by_abs (first ps) (first (later ps)))
    (cond (equal_names w (codes "subst")) (by_subst (first ps) (first (later ps)))
    (cond (equal_names w (codes "substeq")) (by_substeq (first ps) (first (later ps)))
    (cond (equal_names w (codes "refl")) (by_refl (first ps))
    (cond (equal_names w (codes "sym")) (by_sym (first ps))
    (cond (equal_names w (codes "trans")) (by_trans (first ps) (first (later ps)))
    (cond (equal_names w (codes "conv")) (by_conv (first ps) (first (later ps)))
    (cond (equal_names w (codes "conveq")) (by_conveq (first ps) (first (later ps)))
    (cond (equal_names w (codes "left")) (by_left (first ps))
    (cond (equal_names w (codes "right")) (by_right (first ps))
    (cond (equal_names w (codes "typeof")) (by_typeof (first ps))
    (cond (equal_names w (codes "domain")) (by_domain (first ps))
    (cond (equal_names w (codes "boundary")) (by_boundary (first ps))
    (cond (equal_names w (codes "widen")) (by_widen (first ps) (first (later ps)))
    (cond (equal_names w (codes "btype")) by_btype
    (cond (equal_names w (codes "bterm")) (by_bterm (first ps))
    (cond (equal_names w (codes "beqty")) (by_beqty (first ps) (first (later ps)))
    (cond (equal_names w (codes "beqtm")) (by_beqtm (first ps) (first (later ps)) (first (later (later ps))))
    (cond (equal_names w (codes "rule")) (by_rule (first ps) (numbers (later ps)))
    (cond (equal_names w (codes "rulewith")) (by_rulewith (first ps) (first (later ps)) (numbers (later (later ps))))
    (cond (equal_names w (codes "inst")) (by_inst (first ps) (numbers (later ps)))
    (cond (equal_names w (codes "cong")) (by_cong (first ps) (numbers (later ps)) (numbers (beyond (later ps))))
    (cond (equal_names w (codes "convprem")) (by_convprem (first ps) (numbers (later ps)) (numbers (beyond (later ps))) (first (beyond (beyond (later ps)))))
    (cond (equal_names w (codes "convback")) (by_convback (first ps) (numbers (later ps)) (numbers (beyond (later ps))) (first (beyond (beyond (later ps)))))
    (cond (equal_names w (codes "arg")) (by_arg (first ps) (first (later ps)))
    (cond (equal_names w (codes "natural")) (by_natural (first ps))
    (by_metainst (first ps) (numbers (later ps)) (numbers (beyond (later ps)))))))))))))))))))))))))))))))))

numbers_all : (ns : List ℕ) → numbers (map number ns) ≡ ns
numbers_all [] = refl
numbers_all (n ∷ ns) = ap (λ z. n ∷ z) (numbers_all ns)

numbers_before : (ns : List ℕ) (ps : List Part) → numbers (map number ns ++ (slash ∷ ps)) ≡ ns
numbers_before [] ps = refl
numbers_before (n ∷ ns) ps = ap (λ z. n ∷ z) (numbers_before ns ps)

beyond_numbers : (ns : List ℕ) (ps : List Part) → beyond (map number ns ++ (slash ∷ ps)) ≡ ps
beyond_numbers [] ps = refl
beyond_numbers (n ∷ ns) ps = beyond_numbers ns ps

three : {A B C D : Type 0} (f : A → B → C → D) {a x : A} {b y : B} {c z : C} → a ≡ x → b ≡ y → c ≡ z → f a b c ≡ f x y z
three f {a} {x} {b} {y} {c} {z} p q r = ap (λ d. f d b c) p ∙ ap₂ (f x) q r

-- each step is told by its word and its parts
step_told : (s : Stated) → step_from (written s).0 (written s).1 ≡ s
step_told (by_var v) = refl
step_told (by_generic m) = refl
step_told (by_meta m ps) = ap (by_meta m) (numbers_all ps)
step_told (by_metacong m es) = ap (by_metacong m) (numbers_all es)
step_told (by_abs v p) = refl
step_told (by_subst p t) = refl
step_told (by_substeq p e) = refl
step_told (by_refl p) = refl
step_told (by_sym p) = refl
step_told (by_trans p q) = refl
step_told (by_conv p e) = refl
step_told (by_conveq p e) = refl
step_told (by_left p) = refl
step_told (by_right p) = refl
step_told (by_typeof p) = refl
step_told (by_domain p) = refl
step_told (by_boundary p) = refl
step_told (by_widen p q) = refl
step_told by_btype = refl
step_told (by_bterm p) = refl
step_told (by_beqty p q) = refl
step_told (by_beqtm p s t) = refl
step_told (by_rule r ps) = ap (by_rule r) (numbers_all ps)
step_told (by_rulewith r b ps) = ap (by_rulewith r b) (numbers_all ps)
step_told (by_inst r ps) = ap (by_inst r) (numbers_all ps)
step_told (by_cong r ps es) = ap₂ (by_cong r) (numbers_before ps (map number es)) (ap numbers (beyond_numbers ps (map number es)) ∙ numbers_all es)
step_told (by_convprem r ps es q) = three (by_convprem r) (numbers_before ps (map number es ++ (slash ∷ number q ∷ [])))
    (ap numbers (beyond_numbers ps (map number es ++ (slash ∷ number q ∷ []))) ∙ numbers_before es (number q ∷ []))
    (ap (λ z. first (beyond z)) (beyond_numbers ps (map number es ++ (slash ∷ number q ∷ []))) ∙ ap first (beyond_numbers es (number q ∷ [])))
step_told (by_convback r ps es q) = three (by_convback r) (numbers_before ps (map number es ++ (slash ∷ number q ∷ [])))
    (ap numbers (beyond_numbers ps (map number es ++ (slash ∷ number q ∷ []))) ∙ numbers_before es (number q ∷ []))
    (ap (λ z. first (beyond z)) (beyond_numbers ps (map number es ++ (slash ∷ number q ∷ []))) ∙ ap first (beyond_numbers es (number q ∷ [])))
step_told (by_arg i p) = refl
step_told (by_natural p) = refl
step_told (by_metainst p ms qs) = ap₂ (by_metainst p) (numbers_before ms (map number qs)) (ap numbers (beyond_numbers ms (map number qs)) ∙ numbers_all qs)

-- The words of steps are visible.

-- the test for visible plain ASCII
abbrev pub shows : List ℕ → Bool
shows [] = true
shows (c ∷ cs) = (nat_lt 32 c && nat_lt c 128) && shows cs

-- what the test tells
pub shown : (c : ℕ) (cs : List ℕ) → shows (c ∷ cs) ≡ true → (32 < c) × (c < 128) × (shows cs ≡ true)
shown c cs h =
    let k : ((nat_lt 32 c && nat_lt c 128) ≡ true) × (shows cs ≡ true) = and_parts (nat_lt 32 c && nat_lt c 128) (shows cs) h in
    let l : (nat_lt 32 c ≡ true) × (nat_lt c 128 ≡ true) = and_parts (nat_lt 32 c) (nat_lt c 128) k.0 in
    (ltb-true 32 c l.0, ltb-true c 128 l.1, k.1)

visible_by_test : (x : List ℕ) → shows x ≡ true → Visible x
visible_by_test [] h = tt
visible_by_test (c ∷ cs) h = ((shown c cs h).0, visible_by_test cs (shown c cs h).2)

pub word_shows : (s : Stated) → shows (written s).0 ≡ true
word_shows (by_var v) = refl
word_shows (by_generic m) = refl
word_shows (by_meta m ps) = refl
word_shows (by_metacong m es) = refl
word_shows (by_abs v p) = refl
word_shows (by_subst p t) = refl
word_shows (by_substeq p e) = refl
word_shows (by_refl p) = refl
word_shows (by_sym p) = refl
word_shows (by_trans p q) = refl
word_shows (by_conv p e) = refl
word_shows (by_conveq p e) = refl
word_shows (by_left p) = refl
word_shows (by_right p) = refl
word_shows (by_typeof p) = refl
word_shows (by_domain p) = refl
word_shows (by_boundary p) = refl
word_shows (by_widen p q) = refl
word_shows by_btype = refl
word_shows (by_bterm p) = refl
word_shows (by_beqty p q) = refl
word_shows (by_beqtm p s t) = refl
word_shows (by_rule r ps) = refl
word_shows (by_rulewith r b ps) = refl
word_shows (by_inst r ps) = refl
word_shows (by_cong r ps es) = refl
word_shows (by_convprem r ps es q) = refl
word_shows (by_convback r ps es q) = refl
word_shows (by_arg i p) = refl
word_shows (by_natural p) = refl
word_shows (by_metainst p ms qs) = refl

pub word_visible : (s : Stated) → Visible (written s).0
word_visible s = visible_by_test (written s).0 (word_shows s)

-- the texts of a step's word and parts
abbrev pub texts_of_step : Stated → List (List ℕ)
texts_of_step s = (written s).0 ∷ map part_text (written s).1

pub texts_visible : (s : Stated) → PartsFit (written s).1 → AllVisible (texts_of_step s)
texts_visible s h = (word_visible s, parts_visible (written s).1 h)

-- two steps
pub step_same : (s t : Stated) → PartsFit (written s).1 → PartsFit (written t).1 → texts_of_step s ≡ texts_of_step t → s ≡ t
step_same s t a b e =
    sym (step_told s)
    ∙ ap₂ step_from (first_text (written s).0 (written t).0 (map part_text (written s).1) (map part_text (written t).1) e)
    (parts_same (written s).1 (written t).1 a b (other_texts (written s).0 (written t).0 (map part_text (written s).1) (map part_text (written t).1) e))
    ∙ step_told t
