-- Theses and boundaries by their numbers, as arguments of a rule.
use Rattle.std.proofs.Common.{◌≡◌, ◌≢◌, ℕ, zero, suc, ◌+◌, ◌<◌, ◌≤◌, Bool, true, false, ◌&&◌, Option, Some, None, List, [], ◌∷◌, refl, sym, ap, ap₂, ◌∙◌, subst, length, drop, get_or, arith}
use Rattle.std.specs.Prelude.{option_map}
use Rattle.std.proofs.Math.Bool.{and_assoc, and-false, and-true}
use Rattle.std.proofs.lemmas.List.{drop_all}
use Rattle.std.proofs.lemmas.Option.{same_Some}
use Rattle.ft_theory.specs.Expressions.{Expression}
use Rattle.ft_theory.specs.Statements.{Claim, Statement, plain}
use Rattle.ft_items.specs.Item.{Name, Item}
use Rattle.ft_items.specs.Equal.{equal_claims, equal_statements, fit_all, fits, is_thesis}
use Rattle.ft_items.specs.Store.{Assertion, Declared, Store, declared, each, entry_named, metavariable_named, nth, premises_of, store_of, entries_in, metavariables_in, declared_by}
use Rattle.ft_items.specs.Rows.{statements}
use Rattle.ft_items.specs.Good.{Good, all_theses}
use Rattle.ft_items.proofs.Lists.{store_is}
use Rattle.ft_items.proofs.SetLemmas.{both}
use Rattle.ft_judge.specs.Meaning.{under, thesis_in, boundary_in}
use Rattle.ft_judge.specs.declared.judgement.Thesis.{Thesis as ThesisValue}
use Rattle.ft_judge.specs.declared.judgement.Boundary.{Boundary as BoundaryValue}
use Rattle.ft_common.proofs.Options.{none_some}
use Rattle.ft_check.specs.Entries.{is_nil}
use Rattle.ft_check.proofs.Basics.{each_first, nth_map}
use Rattle.ft_check.proofs.OfKind.{boundary_is, thesis_is}
use Rattle.ft_check.proofs.RuleLines.{metavariable_line}
use Rattle.ft_check.proofs.Standing.{entries_are}

-- The boundary of a metavariable of a good list.
pub record MetavariableKnown (items : List Item) (m : ℕ) (d : Declared) : Type 0 where
  pub line : Name × ℕ
  pub stands : nth (metavariables_in items) m ≡ Some line
  pub entry : Assertion
  pub is : entry_named (store_of items) line.1 ≡ Some entry
  pub boundary : d.boundary ≡ entry.statement
  pub kind : is_thesis entry.statement ≡ false

declared_boundary : (x : Name × ℕ) (a : Assertion) (o : Option Assertion) → o ≡ Some a → (declared x o).boundary ≡ a.statement
declared_boundary x a o e = ap (λ o. (declared x o).boundary) e

pub metavariable_known : (items : List Item) (m : ℕ) (d : Declared) → Good items → nth (declared_by items).metavariables m ≡ Some d → MetavariableKnown items m d
metavariable_known items m d g h = go (nth (metavariables_in items) m) refl
  where
    f : Name × ℕ → Declared
    f x = declared x (nth (entries_in items) x.1)

    found : option_map f (nth (metavariables_in items) m) ≡ Some d
    found = sym (ap (λ ds. nth ds m) (store_is items g).metavariables ∙ nth_map f (metavariables_in items) m) ∙ h

    go : (o : Option (Name × ℕ)) → nth (metavariables_in items) m ≡ o → MetavariableKnown items m d
    go None e = none_some (sym (ap (option_map f) e) ∙ found)
    go (Some x) e =
        let b = metavariable_line items m x g e in
        let same : f x ≡ d = same_Some (f x) d (sym (ap (option_map f) e) ∙ found) in
        record {
          line = x;
          stands = e;
          entry = b.conclusion;
          is = b.is;
          boundary = ap (λ (c : Declared). c.boundary) (sym same) ∙ declared_boundary x b.conclusion (nth (entries_in items) x.1) (sym (entries_are items x.1) ∙ b.is);
          kind = b.boundary;
        }

pub no_boundary_named : {P : Type 0} (items : List Item) (m : ℕ) (d : Declared) → Good items → nth (declared_by items).metavariables m ≡ Some d → None ≡ option_map (λ (x : Name × ℕ). x.1) (nth (metavariables_in items) m) → P
no_boundary_named items m d g h e = let k = metavariable_known items m d g h in none_some (e ∙ ap (option_map (λ (x : Name × ℕ). x.1)) k.stands)

pub is_boundary_named : {A : Type 0} (items : List Item) (m p : ℕ) (d : Declared) (f : A → Assertion) (r : Option A) → Good items → nth (declared_by items).metavariables m ≡ Some d
    → Some p ≡ option_map (λ (x : Name × ℕ). x.1) (nth (metavariables_in items) m) → option_map f r ≡ entry_named (store_of items) p → option_map (λ e. (f e).statement) r ≡ Some d.boundary
is_boundary_named {A} items m p d f r g h e q =
    let k = metavariable_known items m d g h in
    let same : p ≡ k.line.1 = same_Some p k.line.1 (e ∙ ap (option_map (λ (x : Name × ℕ). x.1)) k.stands) in
    go r (q ∙ ap (entry_named (store_of items)) same ∙ k.is) ∙ ap Some (sym k.boundary)
  where
    go : {a : Assertion} (r : Option A) → option_map f r ≡ Some a → option_map (λ e. (f e).statement) r ≡ Some a.statement
    go None e = none_some e
    go {a} (Some x) e = ap (λ (b : Assertion). Some b.statement) (same_Some (f x) a e)

pub boundary_kind : (items : List Item) (m : ℕ) (d : Declared) → Good items → nth (declared_by items).metavariables m ≡ Some d → is_thesis d.boundary ≡ false
boundary_kind items m d g h = let k = metavariable_known items m d g h in ap is_thesis k.boundary ∙ k.kind

pub same_statement : (a b : Assertion) → Some a ≡ Some b → a.statement ≡ b.statement
same_statement a b e = ap (λ (x : Assertion). x.statement) (same_Some a b e)

-- kinds of entries
pub no_boundary : {P : Type 0} (ts : List Expression) (b : BoundaryValue) (x : Statement) → x ≡ boundary_in ts b → is_thesis x ≡ true → P
no_boundary ts b x e h = let clash : false ≡ true = boundary_is ts b ∙ ap is_thesis (sym e) ∙ h in absurd (no clash)
  where
    no : false ≡ true → ⊥
    no e = cc

pub no_thesis : {P : Type 0} (ts : List Expression) (b : ThesisValue) (x : Statement) → x ≡ thesis_in ts b → is_thesis x ≡ false → P
no_thesis ts b x e h = let clash : true ≡ false = thesis_is ts b ∙ ap is_thesis (sym e) ∙ h in absurd (no clash)
  where
    no : true ≡ false → ⊥
    no e = cc

pub transported : (P : Statement → Statement → Type 0) (x y w b : Statement) → (is_thesis x ≡ true → is_thesis w ≡ false → P x w) → x ≡ y → w ≡ b → is_thesis y ≡ true → is_thesis b ≡ false → P y b
transported P x y w b f e d h k = subst (λ z. P z b) e (subst (λ z. P x z) d (f (ap is_thesis e ∙ h) (ap is_thesis d ∙ k)))

-- the member of a list in its place
pub each_at : {B : Type 0} (f : ℕ → Option B) (xs : List ℕ) (ys : List B) (k x : ℕ) → each f xs ≡ Some ys → k < length xs → x ≡ get_or xs k 0 → (y : B) × (f x ≡ Some y) × (drop k ys ≡ y ∷ drop (k + 1) ys)
each_at f [] ys k x h l e = absurd (omega (arith, l))
each_at f (z ∷ xs) ys zero x h l e =
    let s = each_first f z xs ys h in
    (s.0, ap f e ∙ s.2, s.4 ∙ ap (λ zs. s.0 ∷ drop 1 zs) (sym s.4))
each_at f (z ∷ xs) ys (suc k) x h l e =
    let s = each_first f z xs ys h in
    let r = each_at f xs s.1 k x s.3 (omega (arith, l)) e in
    let n : suc k + 1 ≡ suc (k + 1) = omega arith in
    (r.0, r.1, ap (drop (suc k)) s.4 ∙ r.2 ∙ ap (λ zs. r.0 ∷ zs) (sym (ap₂ drop n s.4)))

pub each_length : {A B : Type 0} (f : A → Option B) (xs : List A) (ys : List B) → each f xs ≡ Some ys → length ys ≡ length xs
each_length f [] ys h = ap length (sym (same_Some [] ys h))
each_length f (x ∷ xs) ys h = let s = each_first f x xs ys h in ap length s.4 ∙ ap suc (each_length f xs s.1 s.3)

pub theses_drop : (xs : List Assertion) (k : ℕ) → all_theses xs ≡ true → all_theses (drop k xs) ≡ true
theses_drop [] zero h = refl
theses_drop [] (suc k) h = refl
theses_drop (x ∷ xs) zero h = h
theses_drop (x ∷ xs) (suc k) h = theses_drop xs k (both (is_thesis x.statement) (all_theses xs) h).1

-- what an answer says of the list
pub yes_same : (x a b : Bool) → x ≡ true → (x && a) ≡ b → a ≡ b
yes_same x a b e h = ap (λ y. y && a) (sym e) ∙ h

pub no_same : (x a b : Bool) → x ≡ false → (x && a) ≡ b → false ≡ b
no_same x a b e h = ap (λ y. y && a) (sym e) ∙ h

-- the premises one by one
pub fit_next : (W : Store) (ms ps : List ℕ) (ds : List (ℕ × Declared)) (given : List Assertion) (k m p : ℕ) (i : Statement → Statement) (a b c : Bool)
    → each (metavariable_named W.declarations) ms ≡ Some ds → each (entry_named W) ps ≡ Some given → all_theses given ≡ true → length ms ≡ length ps → k < length ms → m ≡ get_or ms k 0 → p ≡ get_or ps k 0
    → ((d : ℕ × Declared) (x : Assertion) → metavariable_named W.declarations m ≡ Some d → entry_named W p ≡ Some x → is_thesis x.statement ≡ true → c ≡ (b && fits x.statement (i d.1.boundary)))
    → a ≡ (b && fit_all i (premises_of (drop k ds)) (statements (drop k given))) → a ≡ (c && fit_all i (premises_of (drop (k + 1) ds)) (statements (drop (k + 1) given)))
fit_next W ms ps ds given k m p i a b c h q t same l e f step g =
    let d = each_at (metavariable_named W.declarations) ms ds k m h l e in
    let x = each_at (entry_named W) ps given k p q (subst (λ n. k < n) same l) f in
    let left : all_theses (x.0 ∷ drop (k + 1) given) ≡ true = ap all_theses (sym x.2) ∙ theses_drop given k t in
    let kind : is_thesis x.0.statement ≡ true = (both (is_thesis x.0.statement) (all_theses (drop (k + 1) given)) left).0 in
    g ∙ ap₂ (λ ds xs. b && fit_all i (premises_of ds) (statements xs)) d.2 x.2
    ∙ sym (and_assoc b (fits x.0.statement (i d.0.1.boundary)) (fit_all i (premises_of (drop (k + 1) ds)) (statements (drop (k + 1) given))))
    ∙ ap (λ z. z && fit_all i (premises_of (drop (k + 1) ds)) (statements (drop (k + 1) given))) (sym (step d.0 x.0 d.1 x.1 kind))

pub fit_end : (W : Store) (ms ps : List ℕ) (ds : List (ℕ × Declared)) (given : List Assertion) (k : ℕ) (i : Statement → Statement) (a b : Bool)
    → each (metavariable_named W.declarations) ms ≡ Some ds → each (entry_named W) ps ≡ Some given → length ms ≡ length ps → length ms ≤ k
    → a ≡ (b && fit_all i (premises_of (drop k ds)) (statements (drop k given))) → b ≡ a
fit_end W ms ps ds given k i a b h q same l g =
    let m : length ds ≤ k = subst (λ n. n ≤ k) (sym (each_length (metavariable_named W.declarations) ms ds h)) l in
    let n : length given ≤ k = subst (λ n. n ≤ k) (same ∙ sym (each_length (entry_named W) ps given q)) l in
    sym (g ∙ ap₂ (λ ds xs. b && fit_all i (premises_of ds) (statements xs)) (drop_all k ds m) (drop_all k given n) ∙ and-true b)

fit_as_many : (i : Statement → Statement) (ds : List (ℕ × Declared)) (xs : List Assertion) → length ds ≢ length xs → fit_all i (premises_of ds) (statements xs) ≡ false
fit_as_many i [] [] n = absurd (n refl)
fit_as_many i [] (x ∷ xs) n = refl
fit_as_many i (d ∷ ds) [] n = refl
fit_as_many i (d ∷ ds) (x ∷ xs) n = ap (λ b. fits x.statement (i d.1.boundary) && b) (fit_as_many i ds xs (λ e. n (ap suc e))) ∙ and-false (fits x.statement (i d.1.boundary))

pub fit_other : (W : Store) (ms ps : List ℕ) (ds : List (ℕ × Declared)) (given : List Assertion) (i : Statement → Statement) (b : Bool)
    → each (metavariable_named W.declarations) ms ≡ Some ds → each (entry_named W) ps ≡ Some given → length ms ≢ length ps → false ≡ (b && fit_all i (premises_of ds) (statements given))
fit_other W ms ps ds given i b h q n =
    sym (and-false b) ∙ ap (λ z. b && z) (sym (fit_as_many i ds given (λ e. n (sym (each_length (metavariable_named W.declarations) ms ds h) ∙ e ∙ each_length (entry_named W) ps given q))))

-- a plain goal
pub plain_goal : (ts : List Expression) (As : List ℕ) (g c : Claim) → is_nil As ≡ true → equal_claims g c ≡ equal_statements (under ts As (plain g)) (plain c)
plain_goal ts [] g c h = refl
plain_goal ts (A ∷ As) g c h = let clash : false ≡ true = h in cc

pub no_plain_goal : (ts : List Expression) (As : List ℕ) (g c : Claim) (b : Bool) → is_nil As ≡ false → false ≡ (b && equal_statements (under ts As (plain g)) (plain c))
no_plain_goal ts [] g c b h = let clash : true ≡ false = h in cc
no_plain_goal ts (A ∷ As) g c b h = sym (and-false b)
