-- What a term tells, part by part.
use Rattle.std.proofs.Common.{◌≡◌, ◌≢◌, ℕ, zero, suc, ◌+◌, ◌<◌, ◌≤◌, Option, Some, None, List, [], ◌∷◌, ◌++◌, refl, sym, ap, ap₂, ◌∙◌, subst, length, drop, take, get_or, map, slice_get, arith}
use Rattle.std.specs.Prelude.{option_map}
use Rattle.std.proofs.lemmas.List.{append_assoc, append-nil, drop_all, drop_more, get_or_default, length-map, map-append, take-map}
use Rattle.std.proofs.Math.ListN.{drop_of_length-le}
use Rattle.ft_theory.specs.Expressions.{Expression, bound, meta, Terms, open_at}
use Rattle.ft_theory.specs.Rules.{term_typings}
use Rattle.ft_theory.specs.Statements.{Claim, has_type, Statement, plain, abstracted, map_claim, map_statement, at, opened}
use Rattle.ft_laws.proofs.Statements.{map_statement-id}
use Rattle.ft_items.specs.Rows.{type_of_boundary}
use Rattle.ft_items.specs.Store.{nth}
use Rattle.ft_syntax.specs.Arguments.{Argument, arguments_of, as_arguments, list_of_terms}
use Rattle.ft_syntax.specs.Laws.{arguments_push}
use Rattle.ft_syntax.specs.Table.{tree, argument_in, arguments_in, ArgumentsBelow, BodyBelow}
use Rattle.ft_syntax.specs.declared.syntax.Arg.{Arg}
use Rattle.ft_judge.specs.Meaning.{goal_in, under}
use Rattle.ft_judge.specs.declared.judgement.Goal.{Goal}
use Rattle.ft_judge.specs.declared.judgement.Goal.TheVariants as goal
use Rattle.ft_placing.specs.Applied.{bodies, domain_put, is_left}
use Rattle.ft_placing.specs.Laws.{terms_listed}
use Rattle.ft_placing.specs.Opening.{listed, opened_by, trees_of}
use Rattle.ft_placing.specs.Telling.{head_told, put_in}
use Rattle.ft_placing.proofs.Nodes.{first_of_rest}
use Rattle.ft_placing.proofs.Putting.{at_more, at_plain, compose, next_put}

-- no domains, and some
pub no_head_told : (ts : List Expression) (Ds : List ℕ) (x : Statement) → length Ds ≢ 0 → None ≡ head_told (under ts Ds x)
no_head_told ts [] x h = absurd (h refl)
no_head_told ts (D ∷ Ds) x h = refl

pub head_plain : (ts : List Expression) (Ds : List ℕ) (x : Statement) (o : Option Expression) → length Ds ≡ 0 → o ≡ head_told x → o ≡ head_told (under ts Ds x)
head_plain ts [] x o h e = e
head_plain ts (D ∷ Ds) x o h e = absurd (omega (arith, h))

-- The first k arguments are listed.
pub record ListedSoFar (ts : List Expression) (e : ℕ) (k : ℕ) (xs : List Arg) : Type 0 where
  pub below : ArgumentsBelow (length ts) xs
  pub same : map (argument_in ts) xs ++ drop k (arguments_of (tree ts e)) ≡ arguments_of (tree ts e)

pub listed_start : (ts : List Expression) (e : ℕ) → ListedSoFar ts e 0 []
listed_start ts e = record { below = tt; same = refl }

pub listed_more : (ts : List Expression) (e k i : ℕ) (x : Arg) (xs ys : List Arg) → ListedSoFar ts e k xs → i ≡ k → slice_get (arguments_of (tree ts e)) i ≡ Some (argument_in ts x) → BodyBelow (length ts) x.body → ys ≡ xs ++ x ∷ [] → ListedSoFar ts e (k + 1) ys
listed_more ts e k i x xs ys h f g b q = subst (ListedSoFar ts e (k + 1)) (sym q)
    (record {
      below = arguments_push (length ts) xs x h.below b;
      same = ap (λ ps. ps ++ drop (k + 1) (arguments_of (tree ts e))) (map-append (argument_in ts) xs (x ∷ []))
          ∙ append_assoc (map (argument_in ts) xs) (argument_in ts x ∷ []) (drop (k + 1) (arguments_of (tree ts e)))
          ∙ ap (λ ps. map (argument_in ts) xs ++ ps) (sym (first_of_rest (arguments_of (tree ts e)) k (argument_in ts x) (subst (λ i. slice_get (arguments_of (tree ts e)) i ≡ Some (argument_in ts x)) f g)))
          ∙ h.same;
    })

pub listed_end : (ts : List Expression) (e k : ℕ) (xs : List Arg) → ListedSoFar ts e k xs → length (arguments_of (tree ts e)) ≤ k → arguments_in ts xs ≡ as_arguments (arguments_of (tree ts e))
listed_end ts e k xs h l =
    ap as_arguments (sym (append-nil (map (argument_in ts) xs)) ∙ ap (λ ps. map (argument_in ts) xs ++ ps) (sym (drop_of_length-le (arguments_of (tree ts e)) l)) ∙ h.same)

-- the terms of a metavariable, as they stand in the table
pub terms_are : (ts : List Expression) (e m : ℕ) (a : Terms) (es : List ℕ) → tree ts e ≡ meta m a → trees_of ts es ≡ bodies (arguments_of (tree ts e)) → listed (trees_of ts es) ≡ a
terms_are ts e m a es h f = ap listed (f ∙ ap (λ x. bodies (arguments_of x)) h) ∙ terms_listed a

-- The type in the boundary at the terms: none where the goal is no term's, and none at fewer terms than there are domains.
no_type_at : (ts : List Expression) (Ds : List ℕ) (as' : List Expression) (g : ℕ → Expression → Expression) (c : Claim) → ((f : Expression → Expression) → type_of_boundary (plain (map_claim f c)) ≡ None)
    → type_of_boundary (at (map_statement g 0 (under ts Ds (plain c))) (listed as')) ≡ None
no_type_at ts [] as' g c h = ap type_of_boundary (at_plain (map_claim (g 0) c) as') ∙ h (g 0)
no_type_at ts (D ∷ Ds) [] g c h = refl
no_type_at ts (D ∷ Ds) (t ∷ as') g c h =
    ap (λ x. type_of_boundary (at x (listed as'))) (compose (under ts Ds (plain c)) (λ l. open_at l t) g 0) ∙ no_type_at ts Ds as' (λ l e. open_at l t (g (suc l) e)) c h

too_few : (ts : List Expression) (Ds : List ℕ) (as' : List Expression) (g : ℕ → Expression → Expression) (c : Claim) → length as' < length Ds → type_of_boundary (at (map_statement g 0 (under ts Ds (plain c))) (listed as')) ≡ None
too_few ts [] as' g c l = absurd (omega (arith, l))
too_few ts (D ∷ Ds) [] g c l = refl
too_few ts (D ∷ Ds) (t ∷ as') g c l =
    ap (λ x. type_of_boundary (at x (listed as'))) (compose (under ts Ds (plain c)) (λ l. open_at l t) g 0) ∙ too_few ts Ds as' (λ l e. open_at l t (g (suc l) e)) c (omega (arith, l))

no_goal : (ts : List Expression) (g : Goal) → None ≡ type_of_boundary (plain (goal_in ts g)) → (f : Expression → Expression) → type_of_boundary (plain (map_claim f (goal_in ts g))) ≡ None
no_goal ts goal.Ty h f = refl
no_goal ts (goal.Tm A) h f = absurd (no h)
  where
    no : None ≡ Some (tree ts A) → ⊥
    no e = cc
no_goal ts (goal.EqTy A B) h f = refl
no_goal ts (goal.EqTm s t A) h f = refl

pub no_type_told : (ts : List Expression) (Ds : List ℕ) (g : Goal) (a : Terms) (left : Option ℕ) → None ≡ type_of_boundary (plain (goal_in ts g))
    → None ≡ option_map (λ N. is_left ts N left) (type_of_boundary (at (under ts Ds (plain (goal_in ts g))) a))
no_type_told ts Ds g a left h =
    ap (option_map (λ N. is_left ts N left))
    (sym (ap (λ a. type_of_boundary (at (under ts Ds (plain (goal_in ts g))) a)) (sym (terms_listed a))
    ∙ ap (λ x. type_of_boundary (at x (listed (bodies (list_of_terms a))))) (sym (map_statement-id (under ts Ds (plain (goal_in ts g))) 0))
    ∙ no_type_at ts Ds (bodies (list_of_terms a)) (λ l e. e) (goal_in ts g) (no_goal ts g h)))

pub few_told : (ts : List Expression) (Ds es : List ℕ) (e m : ℕ) (g : Goal) (a : Terms) (left : Option ℕ) → tree ts e ≡ meta m a → trees_of ts es ≡ bodies (arguments_of (tree ts e)) → length es < length Ds
    → None ≡ option_map (λ N. is_left ts N left) (type_of_boundary (at (under ts Ds (plain (goal_in ts g))) a))
few_told ts Ds es e m g a left h f l =
    ap (option_map (λ N. is_left ts N left))
    (sym (ap (λ a. type_of_boundary (at (under ts Ds (plain (goal_in ts g))) a)) (sym (terms_are ts e m a es h f))
    ∙ ap (λ x. type_of_boundary (at x (listed (trees_of ts es)))) (sym (map_statement-id (under ts Ds (plain (goal_in ts g))) 0))
    ∙ too_few ts Ds (trees_of ts es) (λ l e. e) (goal_in ts g) (subst (λ n. n < length Ds) (sym (length-map es (tree ts))) l)))

goal_is : (ts : List Expression) (g : Goal) (ty : ℕ) → Some (tree ts ty) ≡ type_of_boundary (plain (goal_in ts g)) → (f : Expression → Expression) → type_of_boundary (plain (map_claim f (goal_in ts g))) ≡ Some (f (tree ts ty))
goal_is ts goal.Ty ty h f = cc
goal_is ts (goal.Tm A) ty h f = let same : tree ts ty ≡ tree ts A = cc in ap (λ x. Some (f x)) (sym same)
goal_is ts (goal.EqTy A B) ty h f = cc
goal_is ts (goal.EqTm s t A) ty h f = cc

pub type_told : (ts : List Expression) (Ds es : List ℕ) (e m ty : ℕ) (g : Goal) (a : Terms) (left : Option ℕ) → tree ts e ≡ meta m a → trees_of ts es ≡ bodies (arguments_of (tree ts e)) → Some (tree ts ty) ≡ type_of_boundary (plain (goal_in ts g)) → length Ds ≤ length es
    → Some (is_left ts (put_in ts (take (length Ds) es) ty) left) ≡ option_map (λ N. is_left ts N left) (type_of_boundary (at (under ts Ds (plain (goal_in ts g))) a))
type_told ts Ds es e m ty g a left h f t l =
    ap (option_map (λ N. is_left ts N left))
    (ap (λ as'. Some (opened_by 0 as' (tree ts ty))) (sym (take-map (tree ts) (length Ds) es))
    ∙ sym (goal_is ts g ty t (opened_by 0 (take (length Ds) (trees_of ts es))))
    ∙ ap type_of_boundary (sym (at_more ts Ds (trees_of ts es) (goal_in ts g) (subst (λ n. length Ds ≤ n) (sym (length-map es (tree ts))) l)))
    ∙ ap (λ a. type_of_boundary (at (under ts Ds (plain (goal_in ts g))) a)) (terms_are ts e m a es h f))

-- The domain at a place with the terms before it put.
pub domain_here : (ts : List Expression) (Ds es : List ℕ) (k D : ℕ) → k < length Ds → D ≡ get_or Ds k D → domain_put ts es (drop k Ds) ≡ opened_by 0 (trees_of ts es) (tree ts D)
domain_here ts Ds es k D l e = ap (domain_put ts es) (drop_more Ds k 0 l) ∙ ap (λ D. opened_by 0 (trees_of ts es) (tree ts D)) (get_or_default Ds k 0 D l ∙ sym e)

pub domain_past : (ts : List Expression) (Ds es : List ℕ) (k : ℕ) → length Ds ≤ k → domain_put ts es (drop k Ds) ≡ bound zero
domain_past ts Ds es k l = ap (domain_put ts es) (drop_of_length-le Ds l)

-- The terms, each at its domain.
no_place : (x : Statement) (as' : List Expression) (k : ℕ) → length as' ≤ k → nth (term_typings x (listed as')) k ≡ None
no_place x [] k l = refl
no_place x (t ∷ as') zero l = absurd (omega (arith, l))
no_place x (t ∷ as') (suc k) l = no_place (opened t x) as' k (omega (arith, l))

plain_place : (ts : List Expression) (c : Claim) (es : List ℕ) (k : ℕ) → k < length es → nth (term_typings (plain c) (listed (trees_of ts es))) k ≡ Some (plain (has_type (tree ts (get_or es k 0)) (bound zero)))
plain_place ts c [] k l = absurd (omega (arith, l))
plain_place ts c (e ∷ es) zero l = refl
plain_place ts c (e ∷ es) (suc k) l = plain_place ts c es k (omega (arith, l))

place_at : (ts : List Expression) (done Ds es : List ℕ) (c : Claim) (k : ℕ) → k < length es
    → nth (term_typings (map_statement (λ l. opened_by l (trees_of ts done)) 0 (under ts Ds (plain c))) (listed (trees_of ts es))) k ≡ Some (plain (has_type (tree ts (get_or es k 0)) (domain_put ts (done ++ take k es) (drop k Ds))))
place_at ts done Ds [] c k l = absurd (omega (arith, l))
place_at ts done [] (e ∷ es) c k l =
    plain_place ts (map_claim (opened_by 0 (trees_of ts done)) c) (e ∷ es) k l
    ∙ ap (λ x. Some (plain (has_type (tree ts (get_or (e ∷ es) k 0)) x))) (sym (domain_past ts [] (done ++ take k (e ∷ es)) k (omega arith)))
place_at ts done (D ∷ Ds) (e ∷ es) c zero l = ap (λ es. Some (plain (has_type (tree ts e) (opened_by 0 (trees_of ts es) (tree ts D))))) (sym (append-nil done))
place_at ts done (D ∷ Ds) (e ∷ es) c (suc k) l =
    ap (λ x. nth (term_typings x (listed (trees_of ts es))) k)
    (next_put (under ts Ds (plain c)) (trees_of ts done) (tree ts e) ∙ ap (λ as'. map_statement (λ l. opened_by l as') 0 (under ts Ds (plain c))) (sym (map-append (tree ts) done (e ∷ []))))
    ∙ place_at ts (done ++ e ∷ []) Ds es c k (omega (arith, l))
    ∙ ap (λ fs. Some (plain (has_type (tree ts (get_or es k 0)) (domain_put ts fs (drop k Ds))))) (append_assoc done (e ∷ []) (take k es))

pub no_term_told : {B : Type 0} (ts : List Expression) (es : List ℕ) (e m k : ℕ) (b : Statement) (a : Terms) (f : Statement → B) → tree ts e ≡ meta m a → trees_of ts es ≡ bodies (arguments_of (tree ts e)) → length es ≤ k
    → None ≡ option_map f (nth (term_typings b a) k)
no_term_told ts es e m k b a f h g l =
    ap (option_map f) (sym (ap (λ a. nth (term_typings b a) k) (sym (terms_are ts e m a es h g)) ∙ no_place b (trees_of ts es) k (subst (λ n. n ≤ k) (sym (length-map es (tree ts))) l)))

pub term_told : {B : Type 0} (ts : List Expression) (Ds es : List ℕ) (e m k : ℕ) (c : Claim) (a : Terms) (f : Statement → B) → tree ts e ≡ meta m a → trees_of ts es ≡ bodies (arguments_of (tree ts e)) → k < length es
    → Some (f (plain (has_type (tree ts (get_or es k 0)) (domain_put ts (take k es) (drop k Ds))))) ≡ option_map f (nth (term_typings (under ts Ds (plain c)) a) k)
term_told ts Ds es e m k c a f h g l =
    ap (option_map f)
    (sym (ap (λ a. nth (term_typings (under ts Ds (plain c)) a) k) (sym (terms_are ts e m a es h g))
    ∙ ap (λ x. nth (term_typings x (listed (trees_of ts es))) k) (sym (map_statement-id (under ts Ds (plain c)) 0))
    ∙ place_at ts [] Ds es c k l))
