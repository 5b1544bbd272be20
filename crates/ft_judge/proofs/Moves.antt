-- Statements of which each expression is moved.
use Rattle.std.proofs.Common.{◌≡◌, ℕ, zero, suc, ◌+◌, ◌-◌, ◌<◌, ◌≤◌, List, [], ◌∷◌, ◌++◌, length, get_or, take, drop, map, refl, sym, ap, ap₂, ◌∙◌, subst, arith, append_assoc, append-nil, length-append}
use Rattle.std.proofs.Math.Seq.{take-suc, take-length}
use Rattle.std.proofs.lemmas.List.{map-append, length-map}
use Rattle.ft_theory.specs.Expressions.{Expression, open_at, close_at}
use Rattle.ft_theory.specs.Statements.{is_type, has_type, equal_types, equal_terms, type_goal, term_goal, type_equation_goal, term_equation_goal, map_claim, AllOfClaim}
use Rattle.ft_theory.specs.Small.{IsSmall}
use Rattle.ft_syntax.specs.Table.{tree, Extends, AllBelow}
use Rattle.ft_syntax.specs.Laws.{extends_same, extends_trans, length_extends, tree_extends, trees_extend, all_below_extends, all_push, one_below}
use Rattle.ft_judge.specs.Meaning.{claim_in, goal_in}
use Rattle.ft_judge.specs.Moving.{moved, moved_list, MoveBelow, AreSmall}
use Rattle.ft_judge.specs.declared.judgement.Form.{Form}
use Rattle.ft_judge.specs.declared.judgement.Form.TheVariants.{Ty, Tm, EqTy, EqTm}
use Rattle.ft_judge.specs.declared.judgement.Goal.{Goal}
use Rattle.ft_judge.specs.declared.judgement.Goal.TheVariants as goal
use Rattle.ft_judge.specs.declared.moving.Move.{Move}
use Rattle.ft_judge.specs.declared.moving.Move.TheVariants.{Open, Close}

work_longer : (n m : ℕ) (w : Move) → n ≤ m → MoveBelow n w → MoveBelow m w
work_longer n m (Open t) l h = omega (arith, h)
work_longer n m (Close v) l h = tt

pub next_work : (ts us : List Expression) (w : Move) → Extends ts us → MoveBelow (length ts) w → MoveBelow (length us) w
next_work ts us w x h = work_longer (length ts) (length us) w (length_extends ts us x) h

moved_extends : (ts us : List Expression) (w : Move) (k : ℕ) (e : Expression) → Extends ts us → MoveBelow (length ts) w → moved us w k e ≡ moved ts w k e
moved_extends ts us (Open t) k e x h = ap (λ u. open_at k u e) (tree_extends ts us t x h)
moved_extends ts us (Close v) k e x h = refl

pub next_moved : (ts us : List Expression) (w : Move) (k e : ℕ) → Extends ts us → MoveBelow (length ts) w → e < length ts → moved us w k (tree us e) ≡ moved ts w k (tree ts e)
next_moved ts us w k e x h l = moved_extends ts us w k (tree us e) x h ∙ ap (moved ts w k) (tree_extends ts us e x l)

pub two_big : (ts us : List Expression) (w : Move) (k e : ℕ) → Extends ts us → MoveBelow (length ts) w → e < length ts → (IsSmall (moved us w k (tree us e)) → ⊥) → IsSmall (moved ts w k (tree ts e)) → ⊥
two_big ts us w k e x h l n s = n (subst IsSmall (sym (next_moved ts us w k e x h l)) s)

-- one expression
pub moved_open : (ts : List Expression) (w : Move) (t k : ℕ) (e : Expression) → w ≡ Open t → moved ts w k e ≡ open_at k (tree ts t) e
moved_open ts w t k e h = ap (λ v. moved ts v k e) h

pub moved_close : (ts : List Expression) (w : Move) (v k : ℕ) (e : Expression) → w ≡ Close v → moved ts w k e ≡ close_at k v e
moved_close ts w v k e h = ap (λ u. moved ts u k e) h

pub moved_open_big : (ts : List Expression) (w : Move) (t k : ℕ) (e : Expression) → w ≡ Open t → (IsSmall (open_at k (tree ts t) e) → ⊥) → IsSmall (moved ts w k e) → ⊥
moved_open_big ts w t k e h n s = n (subst IsSmall (moved_open ts w t k e h) s)

pub moved_close_big : (ts : List Expression) (w : Move) (v k : ℕ) (e : Expression) → w ≡ Close v → (IsSmall (close_at k v e) → ⊥) → IsSmall (moved ts w k e) → ⊥
moved_close_big ts w v k e h n s = n (subst IsSmall (moved_close ts w v k e h) s)

pub put_below : (n : ℕ) (w : Move) (t : ℕ) → MoveBelow n w → w ≡ Open t → t < n
put_below n w t h e = subst (MoveBelow n) e h

-- the loop over the domains
moved_append : (ts : List Expression) (w : Move) (k : ℕ) (As : List Expression) (A : Expression) → moved_list ts w k (As ++ A ∷ []) ≡ moved_list ts w k As ++ moved ts w (k + length As) A ∷ []
moved_append ts w k [] A = ap (λ l. moved ts w l A ∷ []) (omega arith)
moved_append ts w k (B ∷ As) A =
    let e : suc k + length As ≡ k + suc (length As) = omega arith in
    ap (λ r. moved ts w k B ∷ r) (moved_append ts w (suc k) As A ∙ ap (λ l. moved_list ts w (suc k) As ++ moved ts w l A ∷ []) e)

pub record Moving (old cur : List Expression) (w : Move) (i : ℕ) (xs start list : List ℕ) : Type 0 where
  pub goes_on : Extends old cur
  pub below : AllBelow (length cur) list
  pub done : map (tree cur) list ≡ map (tree old) start ++ moved_list old w 0 (map (tree old) (take i xs))

pub moving_start : (old : List Expression) (w : Move) (xs start : List ℕ) → AllBelow (length old) start → Moving old old w 0 xs start start
moving_start old w xs start h = record { goes_on = extends_same old old refl; below = h; done = sym (append-nil (map (tree old) start)) }

taken : (ts : List Expression) (i x : ℕ) (xs : List ℕ) → i < length xs → x ≡ get_or xs i x → map (tree ts) (take (suc i) xs) ≡ map (tree ts) (take i xs) ++ tree ts x ∷ []
taken ts i x xs l g = ap (map (tree ts)) (take-suc xs i x l ∙ ap (λ z. take i xs ++ z ∷ []) (sym g)) ∙ map-append (tree ts) (take i xs) (x ∷ [])

length_taken : (i : ℕ) (xs : List ℕ) → i ≤ length xs → length (take i xs) ≡ i
length_taken zero xs l = refl
length_taken (suc i) [] l = absurd (omega arith)
length_taken (suc i) (x ∷ xs) l = ap suc (length_taken i xs (omega arith))

pub moving_more : (old cur next : List Expression) (w : Move) (i x r : ℕ) (xs start list : List ℕ) → AllBelow (length old) xs → MoveBelow (length old) w → Moving old cur w i xs start list → Extends cur next → i < length xs → x ≡ get_or xs i x →
    r < length next → tree next r ≡ moved cur w i (tree cur x) → Moving old next w (suc i) xs start (list ++ r ∷ [])
moving_more old cur next w i x r xs start list h b m g l q s t =
    let As = map (tree old) (take i xs) in
    let n : 0 + length As ≡ i = omega (arith, length-map (take i xs) (tree old), length_taken i xs (omega arith)) in
    let e : tree next r ≡ moved old w (0 + length As) (tree old x) =
    t ∙ next_moved old cur w i x m.goes_on b (one_below (length old) i x xs h l q) ∙ ap (λ k. moved old w k (tree old x)) (sym n) in
    record {
      goes_on = extends_trans old cur next m.goes_on g;
      below = all_push (length next) list r (all_below_extends cur next list g m.below) s;
      done = map-append (tree next) list (r ∷ [])
          ∙ ap₂ (λ ys y. ys ++ y ∷ []) (trees_extend cur next list g m.below ∙ m.done) e
          ∙ append_assoc (map (tree old) start) (moved_list old w 0 As) (moved old w (0 + length As) (tree old x) ∷ [])
          ∙ ap (λ ys. map (tree old) start ++ ys) (sym (moved_append old w 0 As (tree old x)) ∙ sym (ap (moved_list old w 0) (taken old i x xs l q)));
    }

small_at : (ts : List Expression) (w : Move) (k i x : ℕ) (xs : List ℕ) → AreSmall (moved_list ts w k (map (tree ts) xs)) → i < length xs → x ≡ get_or xs i x → IsSmall (moved ts w (k + i) (tree ts x))
small_at ts w k i x [] s l q = absurd (omega arith)
small_at ts w k zero x (y ∷ xs) s l q = subst (λ j. IsSmall (moved ts w j (tree ts x))) (omega arith) (subst (λ z. IsSmall (moved ts w k (tree ts z))) (sym q) s.0)
small_at ts w k (suc i) x (y ∷ xs) s l q = subst (λ j. IsSmall (moved ts w j (tree ts x))) (omega arith) (small_at ts w (suc k) i x xs s.1 (omega arith) q)

pub moving_refused : (old cur : List Expression) (w : Move) (i x : ℕ) (xs start list : List ℕ) → AllBelow (length old) xs → MoveBelow (length old) w → Moving old cur w i xs start list → i < length xs → x ≡ get_or xs i x →
    (IsSmall (moved cur w i (tree cur x)) → ⊥) → AreSmall (moved_list old w 0 (map (tree old) xs)) → ⊥
moving_refused old cur w i x xs start list h b m l q n s =
    n (subst IsSmall (sym (next_moved old cur w i x m.goes_on b (one_below (length old) i x xs h l q))) (subst (λ j. IsSmall (moved old w j (tree old x))) (omega arith) (small_at old w 0 i x xs s l q)))

take_all : (i : ℕ) (xs : List ℕ) → length xs ≤ i → take i xs ≡ xs
take_all zero [] l = refl
take_all zero (x ∷ xs) l = absurd (omega arith)
take_all (suc i) [] l = refl
take_all (suc i) (x ∷ xs) l = ap (λ ys. x ∷ ys) (take_all i xs (omega arith))

pub moving_end : (old cur : List Expression) (w : Move) (i : ℕ) (xs start list : List ℕ) → Moving old cur w i xs start list → length xs ≤ i → map (tree cur) list ≡ map (tree old) start ++ moved_list old w 0 (map (tree old) xs)
moving_end old cur w i xs start list m l = m.done ∙ ap (λ ys. map (tree old) start ++ moved_list old w 0 (map (tree old) ys)) (take_all i xs l)

pub moving_below : (old cur : List Expression) (w : Move) (i x : ℕ) (xs start list : List ℕ) → AllBelow (length old) xs → Moving old cur w i xs start list → i < length xs → x ≡ get_or xs i x → x < length cur
moving_below old cur w i x xs start list h m l q = omega (arith, one_below (length old) i x xs h l q, length_extends old cur m.goes_on)

pub moving_work : (old cur : List Expression) (w : Move) (i : ℕ) (xs start list : List ℕ) → MoveBelow (length old) w → Moving old cur w i xs start list → MoveBelow (length cur) w
moving_work old cur w i xs start list h m = next_work old cur w m.goes_on h

-- the domains after the first
pub rest_is : (xs : List ℕ) → take (length xs - 1) (drop 1 xs) ≡ drop 1 xs
rest_is [] = refl
rest_is (x ∷ xs) = ap (λ n. take n xs) (omega arith) ∙ take-length xs

pub rest_below : (n : ℕ) (xs : List ℕ) → AllBelow n xs → AllBelow n (drop 1 xs)
rest_below n [] h = tt
rest_below n (x ∷ xs) h = h.1

pub moved_count : (ts : List Expression) (w : Move) (k : ℕ) (As : List Expression) → length (moved_list ts w k As) ≡ length As
moved_count ts w k [] = refl
moved_count ts w k (A ∷ As) = ap suc (moved_count ts w (suc k) As)

pub rest_count : (ts us : List Expression) (w : Move) (xs ds : List ℕ) → 0 < length xs → map (tree us) ds ≡ moved_list ts w 0 (map (tree ts) (drop 1 xs)) → length ds + 1 ≡ length xs
rest_count ts us w [] ds l h = absurd (omega arith)
rest_count ts us w (x ∷ xs) ds l h =
    omega (arith, ap length h, length-map ds (tree us), moved_count ts w 0 (map (tree ts) xs), length-map xs (tree ts))

-- forms
pub form_ty : (ts us : List Expression) (w : Move) (k A r : ℕ) (f : Form) → f ≡ Ty A → tree us r ≡ moved ts w k (tree ts A) → claim_in us (Ty r) ≡ map_claim (moved ts w k) (claim_in ts f)
form_ty ts us w k A r f e h = ap is_type h ∙ ap (λ g. map_claim (moved ts w k) (claim_in ts g)) (sym e)

pub form_tm : (ts us : List Expression) (w : Move) (k s A r q : ℕ) (f : Form) → f ≡ Tm s A → tree us r ≡ moved ts w k (tree ts s) → tree us q ≡ moved ts w k (tree ts A) → claim_in us (Tm r q) ≡ map_claim (moved ts w k) (claim_in ts f)
form_tm ts us w k s A r q f e h g = ap₂ has_type h g ∙ ap (λ g. map_claim (moved ts w k) (claim_in ts g)) (sym e)

pub form_eqty : (ts us : List Expression) (w : Move) (k A B r q : ℕ) (f : Form) → f ≡ EqTy A B → tree us r ≡ moved ts w k (tree ts A) → tree us q ≡ moved ts w k (tree ts B) → claim_in us (EqTy r q) ≡ map_claim (moved ts w k) (claim_in ts f)
form_eqty ts us w k A B r q f e h g = ap₂ equal_types h g ∙ ap (λ g. map_claim (moved ts w k) (claim_in ts g)) (sym e)

pub form_eqtm : (ts us : List Expression) (w : Move) (k s u A r q p : ℕ) (f : Form) → f ≡ EqTm s u A → tree us r ≡ moved ts w k (tree ts s) → tree us q ≡ moved ts w k (tree ts u) → tree us p ≡ moved ts w k (tree ts A) →
    claim_in us (EqTm r q p) ≡ map_claim (moved ts w k) (claim_in ts f)
form_eqtm ts us w k s u A r q p f e h g j =
    ap₂ (λ a b. equal_terms a b (tree us p)) h g ∙ ap (equal_terms (moved ts w k (tree ts s)) (moved ts w k (tree ts u))) j ∙ ap (λ g. map_claim (moved ts w k) (claim_in ts g)) (sym e)

pub form_ty_big : (ts : List Expression) (w : Move) (k A : ℕ) (f : Form) → f ≡ Ty A → (IsSmall (moved ts w k (tree ts A)) → ⊥) → AllOfClaim IsSmall (map_claim (moved ts w k) (claim_in ts f)) → ⊥
form_ty_big ts w k A f e n s = n (subst (λ g. AllOfClaim IsSmall (map_claim (moved ts w k) (claim_in ts g))) e s)

pub form_tm_big : (ts : List Expression) (w : Move) (k s A : ℕ) (f : Form) → f ≡ Tm s A → (IsSmall (moved ts w k (tree ts s)) → IsSmall (moved ts w k (tree ts A)) → ⊥) → AllOfClaim IsSmall (map_claim (moved ts w k) (claim_in ts f)) → ⊥
form_tm_big ts w k s A f e n a = let b = subst (λ g. AllOfClaim IsSmall (map_claim (moved ts w k) (claim_in ts g))) e a in n b.0 b.1

pub form_eqty_big : (ts : List Expression) (w : Move) (k A B : ℕ) (f : Form) → f ≡ EqTy A B → (IsSmall (moved ts w k (tree ts A)) → IsSmall (moved ts w k (tree ts B)) → ⊥) → AllOfClaim IsSmall (map_claim (moved ts w k) (claim_in ts f)) → ⊥
form_eqty_big ts w k A B f e n a = let b = subst (λ g. AllOfClaim IsSmall (map_claim (moved ts w k) (claim_in ts g))) e a in n b.0 b.1

pub form_eqtm_big : (ts : List Expression) (w : Move) (k s u A : ℕ) (f : Form) → f ≡ EqTm s u A → (IsSmall (moved ts w k (tree ts s)) → IsSmall (moved ts w k (tree ts u)) → IsSmall (moved ts w k (tree ts A)) → ⊥) → AllOfClaim IsSmall (map_claim (moved ts w k) (claim_in ts f)) → ⊥
form_eqtm_big ts w k s u A f e n a = let b = subst (λ g. AllOfClaim IsSmall (map_claim (moved ts w k) (claim_in ts g))) e a in n b.0 b.1 b.2

-- goals
pub goal_ty : (ts us : List Expression) (w : Move) (k : ℕ) (f : Goal) → f ≡ goal.Ty → type_goal ≡ map_claim (moved ts w k) (goal_in ts f)
goal_ty ts us w k f e = ap (λ g. map_claim (moved ts w k) (goal_in ts g)) (sym e)

pub goal_tm : (ts us : List Expression) (w : Move) (k A r : ℕ) (f : Goal) → f ≡ goal.Tm A → tree us r ≡ moved ts w k (tree ts A) → goal_in us (goal.Tm r) ≡ map_claim (moved ts w k) (goal_in ts f)
goal_tm ts us w k A r f e h = ap term_goal h ∙ ap (λ g. map_claim (moved ts w k) (goal_in ts g)) (sym e)

pub goal_eqty : (ts us : List Expression) (w : Move) (k A B r q : ℕ) (f : Goal) → f ≡ goal.EqTy A B → tree us r ≡ moved ts w k (tree ts A) → tree us q ≡ moved ts w k (tree ts B) → goal_in us (goal.EqTy r q) ≡ map_claim (moved ts w k) (goal_in ts f)
goal_eqty ts us w k A B r q f e h g = ap₂ type_equation_goal h g ∙ ap (λ g. map_claim (moved ts w k) (goal_in ts g)) (sym e)

pub goal_eqtm : (ts us : List Expression) (w : Move) (k s u A r q p : ℕ) (f : Goal) → f ≡ goal.EqTm s u A → tree us r ≡ moved ts w k (tree ts s) → tree us q ≡ moved ts w k (tree ts u) → tree us p ≡ moved ts w k (tree ts A) →
    goal_in us (goal.EqTm r q p) ≡ map_claim (moved ts w k) (goal_in ts f)
goal_eqtm ts us w k s u A r q p f e h g j =
    ap₂ (λ a b. term_equation_goal a b (tree us p)) h g ∙ ap (term_equation_goal (moved ts w k (tree ts s)) (moved ts w k (tree ts u))) j ∙ ap (λ g. map_claim (moved ts w k) (goal_in ts g)) (sym e)

pub goal_tm_big : (ts : List Expression) (w : Move) (k A : ℕ) (f : Goal) → f ≡ goal.Tm A → (IsSmall (moved ts w k (tree ts A)) → ⊥) → AllOfClaim IsSmall (map_claim (moved ts w k) (goal_in ts f)) → ⊥
goal_tm_big ts w k A f e n s = n (subst (λ g. AllOfClaim IsSmall (map_claim (moved ts w k) (goal_in ts g))) e s)

pub goal_eqty_big : (ts : List Expression) (w : Move) (k A B : ℕ) (f : Goal) → f ≡ goal.EqTy A B → (IsSmall (moved ts w k (tree ts A)) → IsSmall (moved ts w k (tree ts B)) → ⊥) → AllOfClaim IsSmall (map_claim (moved ts w k) (goal_in ts f)) → ⊥
goal_eqty_big ts w k A B f e n a = let b = subst (λ g. AllOfClaim IsSmall (map_claim (moved ts w k) (goal_in ts g))) e a in n b.0 b.1

pub goal_eqtm_big : (ts : List Expression) (w : Move) (k s u A : ℕ) (f : Goal) → f ≡ goal.EqTm s u A → (IsSmall (moved ts w k (tree ts s)) → IsSmall (moved ts w k (tree ts u)) → IsSmall (moved ts w k (tree ts A)) → ⊥) → AllOfClaim IsSmall (map_claim (moved ts w k) (goal_in ts f)) → ⊥
goal_eqtm_big ts w k s u A f e n a = let b = subst (λ g. AllOfClaim IsSmall (map_claim (moved ts w k) (goal_in ts g))) e a in n b.0 b.1 b.2
