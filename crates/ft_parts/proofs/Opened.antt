-- Terms put for the variables of domains, one after the other.
use Rattle.std.proofs.Common.{◌≡◌, ◌∙◌, ℕ, zero, suc, ◌+◌, ◌-◌, ◌<◌, ◌≤◌, nat_eq, Some, None, List, [], ◌∷◌, length, drop, refl, sym, ap, ap₂, subst, arith}
use Rattle.std.specs.Prelude.{option_map, slice_get, unwrap_or}
use Rattle.std.proofs.lemmas.Option.{same_Some}
use Rattle.ft_common.proofs.Options.{none_some}
use Rattle.ft_common.proofs.Choices.{if_both}
use Rattle.ft_theory.specs.Expressions.{Expression, bound, free, symbol, meta, Arguments, no_arguments, with_body, dummy, Terms, no_terms, also, open_at, open_arguments, open_terms}
use Rattle.ft_theory.specs.Small.{depth, depth_of_arguments, depth_of_terms, size, size_of_arguments, size_of_terms, IsSmall, NumbersFit, NumbersFitInArguments, NumbersFitInTerms}
use Rattle.ft_syntax.specs.Arguments.{Argument, arguments_of, list_of_arguments, list_of_terms, IsTerm, AreTerms}
use Rattle.ft_syntax.specs.Table.{tree, Extends, argument_in}
use Rattle.ft_syntax.specs.Laws.{extends_trans, tree_extends}
use Rattle.ft_syntax.specs.declared.syntax.Arg.{Arg}
use Rattle.ft_kernel.specs.State.{State}
use Rattle.ft_calls.specs.Answers.{Stays}
use Rattle.ft_calls.proofs.Declared.{stays_same}
use Rattle.ft_parts.specs.Types.{opened_by}

-- A term at a place.

pub all_terms : (a : Terms) → AreTerms (list_of_terms a)
all_terms no_terms = tt
all_terms (also t a) = (refl, all_terms a)

term_place : (ps : List Argument) (i : ℕ) (p : Argument) → AreTerms ps → slice_get ps i ≡ Some p → IsTerm p
term_place [] i p h e = none_some e
term_place (q ∷ ps) zero p h e = subst IsTerm (same_Some q p e) h.0
term_place (q ∷ ps) (suc i) p h e = term_place ps i p h.1 e

pub no_dummy : (ts : List Expression) (ps : List Argument) (i : ℕ) (x : Arg) → AreTerms ps → slice_get ps i ≡ Some (argument_in ts x) → x.body ≡ None → ⊥
no_dummy ts ps i x h e n = subst (λ b. IsTerm (x.binders, option_map (tree ts) b)) n (term_place ps i (argument_in ts x) h e)

pub term_there : (ts : List Expression) (ps : List Argument) (i t : ℕ) (x : Arg) → AreTerms ps → slice_get ps i ≡ Some (argument_in ts x) → x.body ≡ Some t → slice_get ps i ≡ Some (0, Some (tree ts t))
term_there ts ps i t x h e b =
    let none : x.binders ≡ 0 = subst (λ b. IsTerm (x.binders, option_map (tree ts) b)) b (term_place ps i (argument_in ts x) h e) in
    e ∙ ap₂ (λ n o. Some (n, option_map (tree ts) o)) none b

-- What is opened is as deep and as large as what it was opened from, or more.

one_deep : (e : Expression) → 1 ≤ depth e
one_deep (bound i) = omega arith
one_deep (free v) = omega arith
one_deep (symbol s a) = omega arith
one_deep (meta m a) = omega arith

one_large : (e : Expression) → 1 ≤ size e
one_large (bound i) = omega arith
one_large (free v) = omega arith
one_large (symbol s a) = omega arith
one_large (meta m a) = omega arith

mutual
  unfolding open_at

  open_deeper : (e : Expression) (k : ℕ) (t : Expression) → depth e ≤ depth (open_at k t e)
  open_deeper (bound i) k t = if_both (λ e. 1 ≤ depth e) (nat_eq i k) t (bound i) (λ h. one_deep t) (λ h. omega arith)
  open_deeper (free v) k t = omega arith
  open_deeper (symbol s a) k t = omega (arith, arguments_deeper a k t)
  open_deeper (meta m a) k t = omega (arith, terms_deeper a k t)

  arguments_deeper : (a : Arguments) (k : ℕ) (t : Expression) → depth_of_arguments a ≤ depth_of_arguments (open_arguments k t a)
  arguments_deeper no_arguments k t = omega arith
  arguments_deeper (with_body n e a) k t = omega (arith, open_deeper e (n + k) t, arguments_deeper a k t)
  arguments_deeper (dummy n a) k t = arguments_deeper a k t

  terms_deeper : (a : Terms) (k : ℕ) (t : Expression) → depth_of_terms a ≤ depth_of_terms (open_terms k t a)
  terms_deeper no_terms k t = omega arith
  terms_deeper (also e a) k t = omega (arith, open_deeper e k t, terms_deeper a k t)

mutual
  unfolding open_at

  open_larger : (e : Expression) (k : ℕ) (t : Expression) → size e ≤ size (open_at k t e)
  open_larger (bound i) k t = if_both (λ e. 1 ≤ size e) (nat_eq i k) t (bound i) (λ h. one_large t) (λ h. omega arith)
  open_larger (free v) k t = omega arith
  open_larger (symbol s a) k t = omega (arith, arguments_larger a k t)
  open_larger (meta m a) k t = omega (arith, terms_larger a k t)

  arguments_larger : (a : Arguments) (k : ℕ) (t : Expression) → size_of_arguments a ≤ size_of_arguments (open_arguments k t a)
  arguments_larger no_arguments k t = omega arith
  arguments_larger (with_body n e a) k t = omega (arith, open_larger e (n + k) t, arguments_larger a k t)
  arguments_larger (dummy n a) k t = arguments_larger a k t

  terms_larger : (a : Terms) (k : ℕ) (t : Expression) → size_of_terms a ≤ size_of_terms (open_terms k t a)
  terms_larger no_terms k t = omega arith
  terms_larger (also e a) k t = omega (arith, open_larger e k t, terms_larger a k t)

-- its numbers keep their limits
mutual
  unfolding open_at

  open_fits : (e : Expression) (k : ℕ) (t : Expression) → NumbersFit t → NumbersFit e → NumbersFit (open_at k t e)
  open_fits (bound i) k t f h = if_both NumbersFit (nat_eq i k) t (bound i) (λ q. f) (λ q. h)
  open_fits (free v) k t f h = tt
  open_fits (symbol s a) k t f h = arguments_fit a k t f h
  open_fits (meta m a) k t f h = terms_fit a k t f h

  arguments_fit : (a : Arguments) (k : ℕ) (t : Expression) → NumbersFit t → NumbersFitInArguments a → NumbersFitInArguments (open_arguments k t a)
  arguments_fit no_arguments k t f h = tt
  arguments_fit (with_body n e a) k t f h = (h.0, open_fits e (n + k) t f h.1, arguments_fit a k t f h.2)
  arguments_fit (dummy n a) k t f h = (h.0, arguments_fit a k t f h.1)

  terms_fit : (a : Terms) (k : ℕ) (t : Expression) → NumbersFit t → NumbersFitInTerms a → NumbersFitInTerms (open_terms k t a)
  terms_fit no_terms k t f h = tt
  terms_fit (also e a) k t f h = (open_fits e k t f h.0, terms_fit a k t f h.1)

-- so what is opened is small only where what it was opened from is
open_small : (e : Expression) (k : ℕ) (t : Expression) → NumbersFit e → IsSmall (open_at k t e) → IsSmall e
open_small e k t f h =
    let low : depth e ≤ 1000 = omega (arith, open_deeper e k t, h.kept.0) in
    let little : size e ≤ 65536 = omega (arith, open_larger e k t, h.kept.1) in
    record { kept = (low, little, f) }

-- the term of an argument
abbrev pub term_of : Argument → Expression
term_of p = unwrap_or p.1 (bound 0)

-- the terms' numbers keep their limits
abbrev TermsFit : List Argument → Type 0
TermsFit [] = Unit {0}
TermsFit (p ∷ ps) = NumbersFit (term_of p) × TermsFit ps

all_small : (n : ℕ) (ps : List Argument) (e : Expression) → TermsFit ps → NumbersFit e → IsSmall (opened_by n ps e) → IsSmall e
all_small zero ps e f g h = h
all_small (suc n) [] e f g h = h
all_small (suc n) (p ∷ ps) e f g h = open_small e n (term_of p) g (all_small n ps (open_at n (term_of p) e) f.1 (open_fits e n (term_of p) f.0 g) h)

listed_arguments_fit : (a : Arguments) → NumbersFitInArguments a → TermsFit (list_of_arguments a)
listed_arguments_fit no_arguments h = tt
listed_arguments_fit (with_body n e a) h = (h.1, listed_arguments_fit a h.2)
listed_arguments_fit (dummy n a) h = let one : 1 < 18446744073709551616 = omega arith in (one, listed_arguments_fit a h.1)

listed_terms_fit : (a : Terms) → NumbersFitInTerms a → TermsFit (list_of_terms a)
listed_terms_fit no_terms h = tt
listed_terms_fit (also t a) h = (h.0, listed_terms_fit a h.1)

all_fit : (x : Expression) → NumbersFit x → TermsFit (arguments_of x)
all_fit (bound i) h = tt
all_fit (free v) h = tt
all_fit (symbol s a) h = listed_arguments_fit a h
all_fit (meta m a) h = listed_terms_fit a h

dropped_fit : (i : ℕ) (ps : List Argument) → TermsFit ps → TermsFit (drop i ps)
dropped_fit zero ps h = h
dropped_fit (suc i) [] h = tt
dropped_fit (suc i) (p ∷ ps) h = dropped_fit i ps h.1

-- The loop over the domains: what is opened so far, with the terms that are left, is what is wanted.
pub record Opening (s t : State) (ty domains e i opened : ℕ) : Type 0 where
  pub stays : Stays s t
  pub below : opened < length t.trees
  pub done : opened_by (domains - i) (drop i (arguments_of (tree s.trees e))) (tree t.trees opened) ≡ opened_by domains (arguments_of (tree s.trees e)) (tree s.trees ty)

pub opening_start : (s : State) (ty domains e : ℕ) → ty < length s.trees → Opening s s ty domains e 0 ty
opening_start s ty domains e l =
    let same : domains - 0 ≡ domains = omega arith in
    record { stays = stays_same s s refl; below = l; done = ap (λ n. opened_by n (arguments_of (tree s.trees e)) (tree s.trees ty)) same }

drop_get : (ps : List Argument) (i : ℕ) (p : Argument) → slice_get ps i ≡ Some p → drop i ps ≡ p ∷ drop (suc i) ps
drop_get [] i p h = none_some h
drop_get (q ∷ ps) zero p h = ap (λ x. x ∷ ps) (same_Some q p h)
drop_get (q ∷ ps) (suc i) p h = drop_get ps i p h

-- one step of it
turned : (ps : List Argument) (domains i n : ℕ) (T X : Expression) → i < domains → n ≡ domains - 1 - i → slice_get ps i ≡ Some (0, Some T)
    → opened_by (domains - i) (drop i ps) X ≡ opened_by (domains - suc i) (drop (suc i) ps) (open_at n T X)
turned ps domains i n T X l e h =
    let more : domains - i ≡ suc (domains - suc i) = omega (arith, l) in
    let same : domains - suc i ≡ n = omega (arith, l, e) in
    ap₂ (λ d qs. opened_by d qs X) more (drop_get ps i (0, Some T) h)
    ∙ ap (λ d. opened_by (domains - suc i) (drop (suc i) ps) (open_at d T X)) same

-- the expression's terms are the same over the longer table
terms_same : (s t : State) (e : ℕ) → Stays s t → e < length s.trees → arguments_of (tree t.trees e) ≡ arguments_of (tree s.trees e)
terms_same s t e k l = ap arguments_of (tree_extends s.trees t.trees e k.1 l)

pub terms_later : (s t : State) (ty domains e i opened : ℕ) → Opening s t ty domains e i opened → e < length s.trees → AreTerms (arguments_of (tree s.trees e)) → AreTerms (arguments_of (tree t.trees e))
terms_later s t ty domains e i opened o l h = subst AreTerms (sym (terms_same s t e o.stays l)) h

pub count_later : (s t : State) (ty domains e i opened : ℕ) → Opening s t ty domains e i opened → e < length s.trees → domains ≤ length (arguments_of (tree s.trees e)) → i < domains → i + 1 ≤ length (arguments_of (tree t.trees e))
count_later s t ty domains e i opened o l h k = let same : length (arguments_of (tree t.trees e)) ≡ length (arguments_of (tree s.trees e)) = ap length (terms_same s t e o.stays l) in omega (arith, same, h, k)

place_term : (s t : State) (ty domains e i opened T : ℕ) → Opening s t ty domains e i opened → e < length s.trees → slice_get (arguments_of (tree t.trees e)) (i + 1 - 1) ≡ Some (0, Some (tree t.trees T))
    → slice_get (arguments_of (tree s.trees e)) i ≡ Some (0, Some (tree t.trees T))
place_term s t ty domains e i opened T o l h =
    let same : i ≡ i + 1 - 1 = omega arith in
    ap₂ slice_get (sym (terms_same s t e o.stays l)) same ∙ h

pub opening_more : (s t u : State) (ty domains e i opened T n r : ℕ) → Opening s t ty domains e i opened → e < length s.trees → i < domains → n ≡ domains - 1 - i
    → slice_get (arguments_of (tree t.trees e)) (i + 1 - 1) ≡ Some (0, Some (tree t.trees T)) → u.items ≡ t.items → Extends t.trees u.trees → r < length u.trees
    → tree u.trees r ≡ open_at n (tree t.trees T) (tree t.trees opened) → Opening s u ty domains e (suc i) r
opening_more s t u ty domains e i opened T n r o l k d h a x w q = record {
  stays = (a ∙ o.stays.0, extends_trans s.trees t.trees u.trees o.stays.1 x);
  below = w;
  done =
      ap (opened_by (domains - suc i) (drop (suc i) (arguments_of (tree s.trees e)))) q
      ∙ sym (turned (arguments_of (tree s.trees e)) domains i n (tree t.trees T) (tree t.trees opened) k d (place_term s t ty domains e i opened T o l h))
      ∙ o.done;
}

-- a step that is too big is so at the end
pub opening_big : (s t : State) (ty domains e i opened T n : ℕ) → Opening s t ty domains e i opened → e < length s.trees → i < domains → n ≡ domains - 1 - i
    → slice_get (arguments_of (tree t.trees e)) (i + 1 - 1) ≡ Some (0, Some (tree t.trees T)) → IsSmall (tree t.trees e) → IsSmall (tree t.trees opened) → (IsSmall (open_at n (tree t.trees T) (tree t.trees opened)) → ⊥)
    → IsSmall (opened_by domains (arguments_of (tree s.trees e)) (tree s.trees ty)) → ⊥
opening_big s t ty domains e i opened T n o l k d h small so_far big all = big (all_small (domains - suc i) (drop (suc i) ps) X (dropped_fit (suc i) ps fit) (open_fits (tree t.trees opened) n (tree t.trees T) here so_far.kept.2) last)
  where
    ps : List Argument
    ps = arguments_of (tree s.trees e)

    X : Expression
    X = open_at n (tree t.trees T) (tree t.trees opened)

    fit : TermsFit ps
    fit = subst TermsFit (terms_same s t e o.stays l) (all_fit (tree t.trees e) small.kept.2)

    place : slice_get ps i ≡ Some (0, Some (tree t.trees T))
    place = place_term s t ty domains e i opened T o l h

    here : NumbersFit (tree t.trees T)
    here = (subst TermsFit (drop_get ps i (0, Some (tree t.trees T)) place) (dropped_fit i ps fit)).0

    last : IsSmall (opened_by (domains - suc i) (drop (suc i) ps) X)
    last = subst IsSmall (sym o.done ∙ turned ps domains i n (tree t.trees T) (tree t.trees opened) k d place) all

pub opening_end : (s t : State) (ty domains e i opened : ℕ) → Opening s t ty domains e i opened → domains ≤ i → tree t.trees opened ≡ opened_by domains (arguments_of (tree s.trees e)) (tree s.trees ty)
opening_end s t ty domains e i opened o l =
    let none : 0 ≡ domains - i = omega (arith, l) in
    ap (λ n. opened_by n (drop i (arguments_of (tree s.trees e))) (tree t.trees opened)) none ∙ o.done
