-- The loop that puts terms in the arguments of an application.
use Rattle.std.proofs.Common.{◌≡◌, ℕ, suc, ◌+◌, ◌-◌, ◌^◌, ◌<◌, ◌≤◌, min, List, [], ◌∷◌, ◌++◌, length, get_or, map, true, false, ◌&&◌, cond, nat_eq, Option, Some, None, is_some, option_map, refl, sym, ap, ◌∙◌, subst, arith, drop, drop-cons, drop_of_length-le}
use Rattle.ft_theory.specs.Expressions.{Expression, bound, free, Terms, no_terms, also, rename}
use Rattle.ft_theory.specs.Small.{IsSmall}
use Rattle.ft_syntax.specs.Arguments.{node_of, applied, FitsNode}
use Rattle.ft_syntax.specs.Table.{tree, Extends, argument_in, BodyBelow, ArgumentsBelow}
use Rattle.ft_syntax.specs.Laws.{extends_same, length_extends, tree_extends, body_extends}
use Rattle.ft_syntax.specs.Measures.{IsSmallBody, AreSmall}
use Rattle.ft_syntax.specs.Invariant.{IsApplied}
use Rattle.ft_syntax.specs.Instances.{planted, planted_argument, body_for, IsTermOf, AreTermsOf, BodiesBelow, IsPlanted, IsNeverSmall, IsPlantedBody, IsNeverSmallBody}
use Rattle.ft_syntax.specs.declared.syntax.Arg.{Arg}
use Rattle.ft_syntax.proofs.Parts.{small_arguments}
use Rattle.ft_syntax.proofs.Changing.{Mapped, mapped_start, mapped_more, mapped_fits, mapped_tree, mapped_body, applied_longer, applied_tree, applied_fits, fits_kept, small_at, KeepsTerms, first_below}
use Rattle.ft_syntax.proofs.Plugs.{planted_within, planted_past, planted_some, planted_none, planted_free, planted_applied, cut_planted, bodies_at}

-- what the function on variables answers
pub plug_within : (ts : List Expression) (xs : List (Option ℕ)) (k i : ℕ) (t : Expression) → t ≡ bound i → i < k → IsPlanted ts xs k t t
plug_within ts xs k i t h l = record { is = λ a g. h ∙ sym (planted_within a k i l) ∙ ap (planted a k) (sym h) }

pub plug_free : (ts : List Expression) (xs : List (Option ℕ)) (k v : ℕ) (t : Expression) → t ≡ free v → IsPlanted ts xs k t t
plug_free ts xs k v t h = record { is = λ a g. h ∙ sym (planted_free a k v) ∙ ap (planted a k) (sym h) }

pub plug_some : (ts : List Expression) (xs : List (Option ℕ)) (k i p j : ℕ) (x : Option ℕ) (t r : Expression) → t ≡ bound i → k ≤ i → i < k + length xs → p ≡ length xs - 1 - (i - k) → x ≡ get_or xs p x → x ≡ Some j →
    r ≡ rename (λ j. j + k) (tree ts j) → IsPlanted ts xs k t r
plug_some ts xs k i p j x t r h l m q g e f =
    record { is = λ a b. f ∙ sym (planted_some ts xs a k i j x b l m (g ∙ ap (λ n. get_or xs n x) q) e) ∙ ap (planted a k) (sym h) }

pub plug_refused : (ts : List Expression) (xs : List (Option ℕ)) (k i p j : ℕ) (x : Option ℕ) (t : Expression) → t ≡ bound i → k ≤ i → i < k + length xs → p ≡ length xs - 1 - (i - k) → x ≡ get_or xs p x → x ≡ Some j →
    (IsSmall (rename (λ j. j + k) (tree ts j)) → ⊥) → IsNeverSmall ts xs k t
plug_refused ts xs k i p j x t h l m q g e n =
    record { never = λ a b s. n (subst IsSmall (ap (planted a k) h ∙ planted_some ts xs a k i j x b l m (g ∙ ap (λ n. get_or xs n x) q) e) s) }

pub plug_none : (ts : List Expression) (xs : List (Option ℕ)) (k i p : ℕ) (x : Option ℕ) (t : Expression) → t ≡ bound i → k ≤ i → i < k + length xs → p ≡ length xs - 1 - (i - k) → x ≡ get_or xs p x → x ≡ None → IsNeverSmall ts xs k t
plug_none ts xs k i p x t h l m q g e =
    record { never = λ a b s. planted_none ts xs a k i x b l m (g ∙ ap (λ n. get_or xs n x) q) e (subst IsSmall (ap (planted a k) h) s) }

pub plug_past : (ts : List Expression) (xs : List (Option ℕ)) (k i n : ℕ) (t r : Expression) → t ≡ bound i → k + length xs ≤ i → n ≡ length xs → r ≡ bound (i - n) → IsPlanted ts xs k t r
plug_past ts xs k i n t r h l q f = record { is = λ a b. f ∙ ap (λ m. bound (i - m)) q ∙ sym (planted_past ts xs a k i b l) ∙ ap (planted a k) (sym h) }

pub plug_past_small : (ts : List Expression) (xs : List (Option ℕ)) (k i n : ℕ) (t : Expression) → t ≡ bound i → k + length xs ≤ i → n ≡ length xs → (IsSmall (bound (i - n)) → ⊥) → IsNeverSmall ts xs k t
plug_past_small ts xs k i n t h l q f = record { never = λ a b s. f (subst IsSmall (ap (planted a k) h ∙ planted_past ts xs a k i b l ∙ ap (λ m. bound (i - m)) (sym q)) s) }

pub term_below : (n p j : ℕ) (xs : List (Option ℕ)) (x : Option ℕ) → BodiesBelow n xs → p < length xs → x ≡ get_or xs p x → x ≡ Some j → j < n
term_below n p j xs x h l g e = subst (BodyBelow n) e (bodies_at n p xs x h l g)

-- bodies
pub plug_none_body : (ts us : List Expression) (xs : List (Option ℕ)) (k : ℕ) (b : Option ℕ) → b ≡ None → IsPlantedBody ts xs k (option_map (tree ts) b) (option_map (tree us) None)
plug_none_body ts us xs k b e = record { is = λ a h. ap (λ c. option_map (planted a k) (option_map (tree ts) c)) (sym e) }

pub plug_body : (ts us : List Expression) (xs : List (Option ℕ)) (k l j r : ℕ) (b : Option ℕ) → b ≡ Some j → l ≡ min k (2 ^ 64 - 1) → IsSmall (tree ts j) → IsPlanted ts xs l (tree ts j) (tree us r) →
    IsPlantedBody ts xs k (option_map (tree ts) b) (option_map (tree us) (Some r))
plug_body ts us xs k l j r b e q s p =
    record { is = λ a h. ap Some (p.is a h ∙ cut_planted a k l (tree ts j) q s) ∙ ap (λ c. option_map (planted a k) (option_map (tree ts) c)) (sym e) }

pub plug_body_refused : (ts : List Expression) (xs : List (Option ℕ)) (k l j : ℕ) (b : Option ℕ) → b ≡ Some j → l ≡ min k (2 ^ 64 - 1) → IsSmall (tree ts j) → IsNeverSmall ts xs l (tree ts j) → IsNeverSmallBody ts xs k (option_map (tree ts) b)
plug_body_refused ts xs k l j b e q s p =
    record { never = λ a h t. p.never a h (subst IsSmall (sym (cut_planted a k l (tree ts j) q s)) (subst (λ c. IsSmallBody (option_map (planted a k) (option_map (tree ts) c))) e t)) }

-- there are such terms
some_terms : (ts : List Expression) (xs : List (Option ℕ)) → (a : Terms) × AreTermsOf ts xs a
some_terms ts [] = (no_terms, tt)
some_terms ts (Some e ∷ xs) = (also (tree ts e) (some_terms ts xs).0, (refl, (some_terms ts xs).1))
some_terms ts (None ∷ xs) = (also (bound (2 ^ 64)) (some_terms ts xs).0, ((λ s. large s.kept.2), (some_terms ts xs).1))
  where
    large : suc (2 ^ 64) < 2 ^ 64 → ⊥
    large l = omega arith

-- the terms of a table that goes on
term_extends : (ts us : List Expression) (x : Option ℕ) (t : Expression) → Extends ts us → BodyBelow (length ts) x → IsTermOf ts x t → IsTermOf us x t
term_extends ts us None t g b h = h
term_extends ts us (Some e) t g b h = tree_extends ts us e g b ∙ h

pub terms_extend : (ts us : List Expression) (xs : List (Option ℕ)) (a : Terms) → Extends ts us → BodiesBelow (length ts) xs → AreTermsOf ts xs a → AreTermsOf us xs a
terms_extend ts us [] no_terms g b h = tt
terms_extend ts us [] (also t a) g b h = absurd h
terms_extend ts us (x ∷ xs) no_terms g b h = absurd h
terms_extend ts us (x ∷ xs) (also t a) g b h = (term_extends ts us x t g b.0 h.0, terms_extend ts us xs a g b.1 h.1)

pub bodies_longer : (n m : ℕ) (xs : List (Option ℕ)) → n ≤ m → BodiesBelow n xs → BodiesBelow m xs
bodies_longer n m [] l h = tt
bodies_longer n m (None ∷ xs) l h = (tt, bodies_longer n m xs l h.1)
bodies_longer n m (Some e ∷ xs) l h = (omega (arith, h.0), bodies_longer n m xs l h.1)

-- the loop
pub record Planting (old cur : List Expression) (terms : List (Option ℕ)) (k i : ℕ) (xs ys : List Arg) : Type 0 where
  pub goes_on : Extends old cur
  pub below : ArgumentsBelow (length cur) ys
  pub done : (a : Terms) → AreTermsOf old terms a → Mapped (planted_argument a k) old cur i xs ys

planted_keeps : (a : Terms) (k : ℕ) → KeepsTerms (planted_argument a k)
planted_keeps a k (n, Some e) h = h
planted_keeps a k (n, None) h = h

pub planting_start : (old : List Expression) (terms : List (Option ℕ)) (k : ℕ) (xs : List Arg) → Planting old old terms k 0 xs []
planting_start old terms k xs = record { goes_on = extends_same old old refl; below = tt; done = λ a h. mapped_start (planted_argument a k) old xs }

pub planting_more : (old cur next : List Expression) (terms : List (Option ℕ)) (k e i : ℕ) (xs ys : List Arg) (x : Arg) (b : Option ℕ) → IsApplied old e xs → BodiesBelow (length old) terms → Planting old cur terms k i xs ys → Extends cur next →
    i < length xs → x ≡ get_or xs i x → BodyBelow (length next) b → IsPlantedBody cur terms (x.binders + k) (option_map (tree cur) x.body) (option_map (tree next) b) →
    Planting old next terms k (suc i) xs (ys ++ record { binders = x.binders; body = b } ∷ [])
planting_more old cur next terms k e i xs ys x b q t m g l r w p =
    let y : Arg = record { binders = x.binders; body = b } in
    let low = first_below old e i xs x q l r in
    let each : (a : Terms) → AreTermsOf old terms a → Mapped (planted_argument a k) old next (suc i) xs (ys ++ y ∷ []) =
    λ a h. mapped_more (planted_argument a k) old cur next i xs ys x y (m.done a h) g l r w
    (ap (λ d. (x.binders, d)) (p.is a (terms_extend old cur terms a m.goes_on t h) ∙ ap (option_map (planted a (x.binders + k))) (body_extends old cur x.body m.goes_on low))) in
    let s = some_terms old terms in
    record { goes_on = (each s.0 s.1).goes_on; below = (each s.0 s.1).below; done = each }

planted_at : (old : List Expression) (a : Terms) (k e : ℕ) (xs : List Arg) → IsApplied old e xs → planted a k (tree old e) ≡ applied (node_of (tree old e)) (map (planted_argument a k) (map (argument_in old) xs))
planted_at old a k e xs q = ap (planted a k) (applied_tree old e xs q) ∙ planted_applied a k (node_of (tree old e)) (map (argument_in old) xs) q.application (applied_fits old e xs q)

pub planting_refused : (old cur : List Expression) (terms : List (Option ℕ)) (k e i : ℕ) (xs ys : List Arg) (x : Arg) → IsApplied old e xs → BodiesBelow (length old) terms → Planting old cur terms k i xs ys → i < length xs → x ≡ get_or xs i x →
    IsNeverSmallBody cur terms (x.binders + k) (option_map (tree cur) x.body) → IsNeverSmall old terms k (tree old e)
planting_refused old cur terms k e i xs ys x q t m l r n =
    let low = first_below old e i xs x q l r in
    let h = node_of (tree old e) in let ps = map (argument_in old) xs in
    record {
      never = λ a b s.
          let small : AreSmall (map (planted_argument a k) ps) = small_arguments h (map (planted_argument a k) ps) (fits_kept (planted_argument a k) h ps q.application (planted_keeps a k) (applied_fits old e xs q)) (subst IsSmall (planted_at old a k e xs q) s) in
          n.never a (terms_extend old cur terms a m.goes_on t b)
          (subst IsSmallBody (sym (ap (option_map (planted a (x.binders + k))) (body_extends old cur x.body m.goes_on low))) (small_at (planted_argument a k) old xs i x small l r));
    }

pub planting_longer : (old cur : List Expression) (terms : List (Option ℕ)) (k e i : ℕ) (xs ys : List Arg) → IsApplied old e xs → Planting old cur terms k i xs ys → IsApplied cur e xs
planting_longer old cur terms k e i xs ys q m = let s = some_terms old terms in applied_longer (planted_argument s.0 k) old cur e i xs ys q (m.done s.0 s.1)

pub planting_body : (old cur : List Expression) (terms : List (Option ℕ)) (k e i : ℕ) (xs ys : List Arg) (x : Arg) → IsApplied old e xs → Planting old cur terms k i xs ys → i < length xs → x ≡ get_or xs i x → BodyBelow (length cur) x.body
planting_body old cur terms k e i xs ys x q m l r = let s = some_terms old terms in mapped_body (planted_argument s.0 k) old cur e i xs ys x q (m.done s.0 s.1) l r

pub planting_below : (old cur : List Expression) (terms : List (Option ℕ)) (k i : ℕ) (xs ys : List Arg) → Planting old cur terms k i xs ys → BodiesBelow (length old) terms → BodiesBelow (length cur) terms
planting_below old cur terms k i xs ys m h = bodies_longer (length old) (length cur) terms (length_extends old cur m.goes_on) h

pub planting_fits : (old cur : List Expression) (terms : List (Option ℕ)) (k e i : ℕ) (xs ys : List Arg) → IsApplied old e xs → Planting old cur terms k i xs ys → length xs ≤ i → FitsNode (node_of (tree cur e)) (map (argument_in cur) ys)
planting_fits old cur terms k e i xs ys q m l = let s = some_terms old terms in mapped_fits (planted_argument s.0 k) old cur e i xs ys q (planted_keeps s.0 k) (m.done s.0 s.1) l

pub planting_end : (old cur : List Expression) (terms : List (Option ℕ)) (k e i : ℕ) (xs ys : List Arg) (r : Expression) → IsApplied old e xs → Planting old cur terms k i xs ys → length xs ≤ i → r ≡ applied (node_of (tree cur e)) (map (argument_in cur) ys) →
    IsPlanted old terms k (tree old e) r
planting_end old cur terms k e i xs ys r q m l h =
    record { is = λ a b. h ∙ mapped_tree (planted_argument a k) old cur e i xs ys q (m.done a b) l ∙ sym (planted_at old a k e xs q) }

pub planting_too_big : (old cur : List Expression) (terms : List (Option ℕ)) (k e i : ℕ) (xs ys : List Arg) → IsApplied old e xs → Planting old cur terms k i xs ys → length xs ≤ i → (IsSmall (applied (node_of (tree cur e)) (map (argument_in cur) ys)) → ⊥) →
    IsNeverSmall old terms k (tree old e)
planting_too_big old cur terms k e i xs ys q m l n =
    record { never = λ a b s. n (subst IsSmall (planted_at old a k e xs q ∙ sym (mapped_tree (planted_argument a k) old cur e i xs ys q (m.done a b) l)) s) }

-- the body for a metavariable, sought from the first pair on
pub record Seeking (pairs : List (ℕ × Arg)) (m k i : ℕ) : Type 0 where
  pub rest : body_for pairs m k ≡ body_for (drop i pairs) m k

pub body_for_start : (pairs : List (ℕ × Arg)) (m k : ℕ) → Seeking pairs m k 0
body_for_start pairs m k = record { rest = refl }

drop_pair : (pairs : List (ℕ × Arg)) (i : ℕ) (p : ℕ × Arg) → i < length pairs → p ≡ get_or pairs i p → drop i pairs ≡ p ∷ drop (suc i) pairs
drop_pair pairs i p l h = drop-cons pairs i p l ∙ ap (λ q. q ∷ drop (suc i) pairs) (sym h)

pub body_for_here : (pairs : List (ℕ × Arg)) (m k i : ℕ) (p : ℕ × Arg) → Seeking pairs m k i → i < length pairs → p ≡ get_or pairs i p → (nat_eq m p.0 && nat_eq k p.1.binders && is_some p.1.body) ≡ true → body_for pairs m k ≡ p.1.body
body_for_here pairs m k i p s l h t =
    s.rest ∙ ap (λ ps. body_for ps m k) (drop_pair pairs i p l h) ∙ ap (λ b. cond b p.1.body (body_for (drop (suc i) pairs) m k)) t

pub body_for_past : (pairs : List (ℕ × Arg)) (m k i : ℕ) (p : ℕ × Arg) → Seeking pairs m k i → i < length pairs → p ≡ get_or pairs i p → (nat_eq m p.0 && nat_eq k p.1.binders && is_some p.1.body) ≡ false → Seeking pairs m k (suc i)
body_for_past pairs m k i p s l h t =
    record { rest = s.rest ∙ ap (λ ps. body_for ps m k) (drop_pair pairs i p l h) ∙ ap (λ b. cond b p.1.body (body_for (drop (suc i) pairs) m k)) t }

pub body_for_end : (pairs : List (ℕ × Arg)) (m k i : ℕ) → Seeking pairs m k i → length pairs ≤ i → body_for pairs m k ≡ None
body_for_end pairs m k i s l = s.rest ∙ ap (λ ps. body_for ps m k) (drop_of_length-le pairs l)
