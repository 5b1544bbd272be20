-- Equations that start at the heads of theses, and their right sides.
use Rattle.std.proofs.Common.{◌≡◌, ℕ, zero, suc, ◌+◌, ◌<◌, ◌≤◌, Bool, true, false, cond, ◌&&◌, Option, Some, None, is_some, List, [], ◌∷◌, ◌++◌, refl, sym, ap, ap₂, ◌∙◌, subst, length, drop, get_or, map, arith}
use Rattle.std.specs.Prelude.{option_map, option_and_then}
use Rattle.std.proofs.Math.Bool.{and_comm, and-false}
use Rattle.std.proofs.lemmas.List.{append_assoc, append-nil, drop_all, map-append}
use Rattle.std.proofs.lemmas.Option.{same_Some}
use Rattle.ft_common.proofs.Options.{none_some}
use Rattle.ft_theory.specs.Expressions.{Expression, with_body, dummy}
use Rattle.ft_theory.specs.Statements.{Claim, is_type, has_type, equal_types, equal_terms, type_goal, term_goal, type_equation_goal, term_equation_goal, Statement, plain, abstracted, domain_count}
use Rattle.ft_items.specs.Item.{Item}
use Rattle.ft_items.specs.Equal.{equal_claims, equal_expressions, equal_statements, has_head, is_thesis, is_thesis_claim, right_head, right_heads, right_of_claim, start_all, starts, starts_claim}
use Rattle.ft_items.specs.Store.{Assertion, entry_named, store_of}
use Rattle.ft_items.specs.Rows.{left_side, statements, under_domains}
use Rattle.ft_items.specs.Good.{all_theses}
use Rattle.ft_items.proofs.SetLemmas.{both}
use Rattle.ft_syntax.specs.Arguments.{Argument, as_arguments}
use Rattle.ft_syntax.specs.Laws.{arguments_push}
use Rattle.ft_syntax.specs.Table.{tree, argument_in, arguments_in, ArgumentsBelow, BodyBelow}
use Rattle.ft_syntax.specs.declared.syntax.Arg.{Arg}
use Rattle.ft_judge.specs.Meaning.{claim_in, head_of_form, thesis_in, under}
use Rattle.ft_judge.specs.declared.judgement.Form.{Form}
use Rattle.ft_judge.specs.declared.judgement.Form.TheVariants as form
use Rattle.ft_judge.specs.declared.judgement.Thesis.{Thesis as ThesisValue}
use Rattle.ft_check.specs.Arguing.{AreTheses}
use Rattle.ft_check.specs.Equations.{next_in, right_and_rest, taken}
use Rattle.ft_check.specs.declared.rights.Next.{Next}
use Rattle.ft_check.proofs.Fits.{each_at, each_length, theses_drop}

-- An equation starts at a thesis where that is its left side.
abbrev pub started : Statement → Option Statement → Bool
started x None = false
started x (Some y) = equal_statements x y

types_start : (c : Claim) (B C : Expression) → equal_claims c (is_type B) ≡ starts_claim c (equal_types B C)
types_start (is_type A) B C = refl
types_start (has_type t A) B C = refl
types_start (equal_types D E) B C = refl
types_start (equal_terms s t A) B C = refl
types_start type_goal B C = refl
types_start (term_goal A) B C = refl
types_start (type_equation_goal D E) B C = refl
types_start (term_equation_goal s t A) B C = refl

terms_start : (c : Claim) (s u B : Expression) → equal_claims c (has_type s B) ≡ starts_claim c (equal_terms s u B)
terms_start (is_type A) s u B = refl
terms_start (has_type t A) s u B = and_comm (equal_expressions t s) (equal_expressions A B)
terms_start (equal_types D E) s u B = refl
terms_start (equal_terms r t A) s u B = refl
terms_start type_goal s u B = refl
terms_start (term_goal A) s u B = refl
terms_start (type_equation_goal D E) s u B = refl
terms_start (term_equation_goal r t A) s u B = refl

type_starts_none : (c : Claim) (B : Expression) → starts_claim c (is_type B) ≡ false
type_starts_none (is_type A) B = refl
type_starts_none (has_type t A) B = refl
type_starts_none (equal_types D E) B = refl
type_starts_none (equal_terms s t A) B = refl
type_starts_none type_goal B = refl
type_starts_none (term_goal A) B = refl
type_starts_none (type_equation_goal D E) B = refl
type_starts_none (term_equation_goal s t A) B = refl

term_starts_none : (c : Claim) (u B : Expression) → starts_claim c (has_type u B) ≡ false
term_starts_none (is_type A) u B = refl
term_starts_none (has_type t A) u B = refl
term_starts_none (equal_types D E) u B = refl
term_starts_none (equal_terms s t A) u B = refl
term_starts_none type_goal u B = refl
term_starts_none (term_goal A) u B = refl
term_starts_none (type_equation_goal D E) u B = refl
term_starts_none (term_equation_goal s t A) u B = refl

claim_starts : (c d : Claim) → is_thesis_claim d ≡ true → started (plain c) (option_map plain (left_side d)) ≡ starts_claim c d
claim_starts c (is_type B) h = sym (type_starts_none c B)
claim_starts c (has_type u B) h = sym (term_starts_none c u B)
claim_starts c (equal_types B C) h = types_start c B C
claim_starts c (equal_terms s u B) h = terms_start c s u B
claim_starts c type_goal h = let clash : false ≡ true = h in cc
claim_starts c (term_goal B) h = let clash : false ≡ true = h in cc
claim_starts c (type_equation_goal B C) h = let clash : false ≡ true = h in cc
claim_starts c (term_equation_goal s u B) h = let clash : false ≡ true = h in cc

under_plain : (c : Claim) (B : Expression) (o : Option Statement) → started (plain c) (option_map (abstracted B) o) ≡ false
under_plain c B None = refl
under_plain c B (Some y) = refl

plain_under : (A : Expression) (x : Statement) (o : Option Claim) → started (abstracted A x) (option_map plain o) ≡ false
plain_under A x None = refl
plain_under A x (Some y) = refl

under_both : (A B : Expression) (x : Statement) (o : Option Statement) → started (abstracted A x) (option_map (abstracted B) o) ≡ (equal_expressions A B && started x o)
under_both A B x None = sym (and-false (equal_expressions A B))
under_both A B x (Some y) = refl

left_starts : (x e : Statement) → is_thesis e ≡ true → started x (under_domains left_side e) ≡ starts x e
left_starts (plain c) (plain d) h = claim_starts c d h
left_starts (plain c) (abstracted B e) h = under_plain c B (under_domains left_side e)
left_starts (abstracted A x) (plain d) h = plain_under A x (left_side d)
left_starts (abstracted A x) (abstracted B e) h = under_both A B x (under_domains left_side e) ∙ ap (λ b. equal_expressions A B && b) (left_starts x e h)

pub no_left : (x e : Statement) (o : Option Statement) → None ≡ o → o ≡ under_domains left_side e → is_thesis e ≡ true → false ≡ starts x e
no_left x e o n h k = ap (started x) (n ∙ h) ∙ left_starts x e k

pub left_there : (x e y : Statement) (b : Bool) → Some y ≡ under_domains left_side e → b ≡ equal_statements x y → is_thesis e ≡ true → b ≡ starts x e
left_there x e y b h f k = f ∙ ap (started x) h ∙ left_starts x e k

-- the right side
right_under : (ts : List Expression) (As : List ℕ) (c : Claim) → right_head (under ts As (plain c)) ≡ right_of_claim c
right_under ts [] c = refl
right_under ts (A ∷ As) c = right_under ts As c

pub right_is : (ts : List Expression) (x : ThesisValue) (b : ℕ) → tree ts b ≡ right_of_claim (claim_in ts x.form) → tree ts b ≡ right_head (thesis_in ts x)
right_is ts x b h = h ∙ sym (right_under ts x.domains (claim_in ts x.form))

not_started : {P : Type 0} (ts : List Expression) (y : Statement) (As : List ℕ) (c : Claim) → ((d : Claim) → starts_claim d c ≡ false) → starts y (under ts As (plain c)) ≡ true → P
not_started ts (plain d) [] c f h = let clash : false ≡ true = sym (f d) ∙ h in absurd (no clash)
  where
    no : false ≡ true → ⊥
    no e = cc
not_started ts (plain d) (A ∷ As) c f h = let clash : false ≡ true = h in absurd (no clash)
  where
    no : false ≡ true → ⊥
    no e = cc
not_started ts (abstracted B y) [] c f h = let clash : false ≡ true = h in absurd (no clash)
  where
    no : false ≡ true → ⊥
    no e = cc
not_started ts (abstracted B y) (A ∷ As) c f h = not_started ts y As c f (both (equal_expressions B (tree ts A)) (starts y (under ts As (plain c))) h).1

pub no_equation : {P : Type 0} (ts : List Expression) (y : Statement) (x : ThesisValue) → ((A B : ℕ) → x.form ≡ form.EqTy A B → ⊥) → ((s t A : ℕ) → x.form ≡ form.EqTm s t A → ⊥) → starts y (thesis_in ts x) ≡ true → P
no_equation {P} ts y x a b h = go x.form a b h
  where
    go : (f : Form) → ((A B : ℕ) → f ≡ form.EqTy A B → ⊥) → ((s t A : ℕ) → f ≡ form.EqTm s t A → ⊥) → starts y (under ts x.domains (plain (claim_in ts f))) ≡ true → P
    go (form.Ty A) a b h = not_started ts y x.domains (claim_in ts (form.Ty A)) (λ d. type_starts_none d (tree ts A)) h
    go (form.Tm t A) a b h = not_started ts y x.domains (claim_in ts (form.Tm t A)) (λ d. term_starts_none d (tree ts t) (tree ts A)) h
    go (form.EqTy A B) a b h = absurd (a A B refl)
    go (form.EqTm s t A) a b h = absurd (b s t A refl)

-- the first equation
statements_drop : (n : ℕ) (xs : List Assertion) → drop n (statements xs) ≡ statements (drop n xs)
statements_drop zero xs = refl
statements_drop (suc n) [] = refl
statements_drop (suc n) (x ∷ xs) = statements_drop n xs

pub record Standing (items : List Item) (es : List ℕ) (ys : List Assertion) (k : ℕ) (e : ℕ) : Type 0 where
  pub one : Assertion
  pub is : entry_named (store_of items) e ≡ Some one
  pub thesis : is_thesis one.statement ≡ true
  pub rest : drop k (statements ys) ≡ one.statement ∷ drop (k + 1) (statements ys)

pub standing : (items : List Item) (es : List ℕ) (ys : List Assertion) (k e : ℕ) → AreTheses items es ys → k < length es → e ≡ get_or es k 0 → Standing items es ys k e
standing items es ys k e h l g =
    let y = each_at (entry_named (store_of items)) es ys k e h.are l g in
    let left : all_theses (y.0 ∷ drop (k + 1) ys) ≡ true = ap all_theses (sym y.2) ∙ theses_drop ys k h.theses in
    record {
      one = y.0;
      is = y.1;
      thesis = (both (is_thesis y.0.statement) (all_theses (drop (k + 1) ys)) left).0;
      rest = statements_drop k ys ∙ ap statements y.2 ∙ ap (λ zs. y.0.statement ∷ zs) (sym (statements_drop (k + 1) ys));
    }

pub none_left : (items : List Item) (es : List ℕ) (ys : List Assertion) (k : ℕ) → AreTheses items es ys → length es ≤ k → drop k (statements ys) ≡ []
none_left items es ys k h l =
    statements_drop k ys ∙ ap statements (drop_all k ys (subst (λ n. n ≤ k) (sym (each_length (entry_named (store_of items)) es ys h.are)) l))

pub taken_none : (x : Statement) (es : List Statement) → es ≡ [] → None ≡ taken x es
taken_none x es e = sym (ap (taken x) e)

pub taken_not : (x e : Statement) (es ds : List Statement) (b : Bool) → es ≡ e ∷ ds → b ≡ starts x e → b ≡ false → None ≡ taken x es
taken_not x e es ds b h f n = sym (ap (taken x) h ∙ ap (λ b. cond b (Some ((domain_count x, Some (right_head e)), ds)) None) (sym f ∙ n))

pub taken_some : (x e : Statement) (es ds : List Statement) (b : Bool) (n : ℕ) (r : Expression) → es ≡ e ∷ ds → b ≡ starts x e → b ≡ true → n ≡ domain_count x → r ≡ right_head e → Some ((n, Some r), ds) ≡ taken x es
taken_some x e es ds b n r h f t m g =
    ap₂ (λ n r. Some ((n, Some r), ds)) m g
    ∙ ap (λ b. cond b (Some ((domain_count x, Some (right_head e)), ds)) None) (sym t ∙ f) ∙ sym (ap (taken x) h)

-- the head of a thesis
depth_under : (ts : List Expression) (As : List ℕ) (c : Claim) → domain_count (under ts As (plain c)) ≡ length As
depth_under ts [] c = refl
depth_under ts (A ∷ As) c = ap suc (depth_under ts As c)

pub thesis_depth : (ts : List Expression) (x : ThesisValue) → length x.domains ≡ domain_count (thesis_in ts x)
thesis_depth ts x = sym (depth_under ts x.domains (claim_in ts x.form))

head_under : (ts : List Expression) (As : List ℕ) (f : Form) → is_some (head_of_form f) ≡ has_head (under ts As (plain (claim_in ts f)))
head_under ts (A ∷ As) f = head_under ts As f
head_under ts [] (form.Ty A) = refl
head_under ts [] (form.Tm t A) = refl
head_under ts [] (form.EqTy A B) = refl
head_under ts [] (form.EqTm s t A) = refl

pub thesis_head : (ts : List Expression) (x : ThesisValue) → is_some (head_of_form x.form) ≡ has_head (thesis_in ts x)
thesis_head ts x = head_under ts x.domains x.form

pub without_head : (x : Statement) (es : List Statement) (b : Bool) (n : ℕ) → b ≡ has_head x → b ≡ false → n ≡ domain_count x → Some ((n, None), es) ≡ right_and_rest x es
without_head x es b n h f m =
    ap (λ n. Some ((n, None), es)) m ∙ ap (λ b. cond b (taken x es) (Some ((domain_count x, None), es))) (sym f ∙ h)

pub with_head : (x : Statement) (es : List Statement) (b : Bool) (o : Option (Argument × List Statement)) → b ≡ has_head x → b ≡ true → o ≡ taken x es → o ≡ right_and_rest x es
with_head x es b o h t e =
    e ∙ ap (λ b. cond b (taken x es) (Some ((domain_count x, None), es))) (sym t ∙ h)

-- All right sides, where each head has its equation.
abbrev pub rights : List Statement → List Statement → Option (List Argument)
rights [] [] = Some []
rights [] (e ∷ es) = None
rights (x ∷ xs) es = option_and_then (λ (s : Argument × List Statement). option_map (λ (as' : List Argument). s.0 ∷ as') (rights xs s.1)) (right_and_rest x es)

-- one more argument
abbrev first_of : Argument → List Argument → List Argument
first_of a as' = a ∷ as'

some_map : {A B : Type 0} (f : A → B) (o : Option A) → is_some (option_map f o) ≡ is_some o
some_map f None = refl
some_map f (Some x) = refl

pub start_rights : (xs es : List Statement) → is_some (rights xs es) ≡ start_all xs es
start_rights [] [] = refl
start_rights [] (e ∷ es) = refl
start_rights (x ∷ xs) [] = go (has_head x) (start_rights xs [])
  where
    go : (b : Bool) → is_some (rights xs []) ≡ start_all xs []
        → is_some (option_and_then (λ (s : Argument × List Statement). option_map (λ (as' : List Argument). s.0 ∷ as') (rights xs s.1)) (cond b None (Some ((domain_count x, None), [])))) ≡ cond b false (start_all xs [])
    go true h = refl
    go false h = some_map (first_of (domain_count x, None)) (rights xs []) ∙ h
start_rights (x ∷ xs) (e ∷ es) = go (has_head x) (starts x e) (start_rights xs es) (start_rights xs (e ∷ es))
  where
    go : (b d : Bool) → is_some (rights xs es) ≡ start_all xs es → is_some (rights xs (e ∷ es)) ≡ start_all xs (e ∷ es)
        → is_some (option_and_then (λ (s : Argument × List Statement). option_map (λ (as' : List Argument). s.0 ∷ as') (rights xs s.1)) (cond b (cond d (Some ((domain_count x, Some (right_head e)), es)) None) (Some ((domain_count x, None), e ∷ es))))
        ≡ cond b (d && start_all xs es) (start_all xs (e ∷ es))
    go true true h k = some_map (first_of (domain_count x, Some (right_head e))) (rights xs es) ∙ h
    go true false h k = refl
    go false d h k = some_map (first_of (domain_count x, None)) (rights xs (e ∷ es)) ∙ k

pushed : (a : Argument) (o : Option (List Argument)) (as' : List Argument) → option_map (λ (as' : List Argument). a ∷ as') o ≡ Some as' → (bs : List Argument) × (o ≡ Some bs) × (a ∷ bs ≡ as')
pushed a None as' h = none_some h
pushed a (Some bs) as' h = (bs, refl, same_Some (a ∷ bs) as' h)

pub right_rights : (xs es : List Statement) (as' : List Argument) → rights xs es ≡ Some as' → as_arguments as' ≡ right_heads xs es
right_rights [] [] as' h = sym (ap as_arguments (same_Some [] as' h))
right_rights [] (e ∷ es) as' h = none_some h
right_rights (x ∷ xs) [] as' h = go (has_head x) (right_rights xs []) h
  where
    go : (b : Bool) → ((bs : List Argument) → rights xs [] ≡ Some bs → as_arguments bs ≡ right_heads xs [])
        → option_and_then (λ (s : Argument × List Statement). option_map (λ (as' : List Argument). s.0 ∷ as') (rights xs s.1)) (cond b None (Some ((domain_count x, None), []))) ≡ Some as'
        → as_arguments as' ≡ dummy (domain_count x) (right_heads xs [])
    go true f h = none_some h
    go false f h =
        let p = pushed (domain_count x, None) (rights xs []) as' h in
        sym (ap as_arguments p.2) ∙ ap (dummy (domain_count x)) (f p.0 p.1)
right_rights (x ∷ xs) (e ∷ es) as' h = go (has_head x) (starts x e) (right_rights xs es) (right_rights xs (e ∷ es)) h
  where
    go : (b d : Bool) → ((bs : List Argument) → rights xs es ≡ Some bs → as_arguments bs ≡ right_heads xs es)
        → ((bs : List Argument) → rights xs (e ∷ es) ≡ Some bs → as_arguments bs ≡ right_heads xs (e ∷ es))
        → option_and_then (λ (s : Argument × List Statement). option_map (λ (as' : List Argument). s.0 ∷ as') (rights xs s.1)) (cond b (cond d (Some ((domain_count x, Some (right_head e)), es)) None) (Some ((domain_count x, None), e ∷ es))) ≡ Some as'
        → as_arguments as' ≡ cond b (with_body (domain_count x) (right_head e) (right_heads xs es)) (dummy (domain_count x) (right_heads xs (e ∷ es)))
    go true true f g h =
        let p = pushed (domain_count x, Some (right_head e)) (rights xs es) as' h in
        sym (ap as_arguments p.2) ∙ ap (with_body (domain_count x) (right_head e)) (f p.0 p.1)
    go true false f g h = none_some h
    go false d f g h =
        let p = pushed (domain_count x, None) (rights xs (e ∷ es)) as' h in
        sym (ap as_arguments p.2) ∙ ap (dummy (domain_count x)) (g p.0 p.1)

-- The first k theses have their arguments, from the first equations.
pub record RightsSoFar (items : List Item) (ps es : List ℕ) (k used : ℕ) (ts : List Expression) (list : List Arg) : Type 0 where
  pub within : used ≤ length es
  pub below : ArgumentsBelow (length ts) list
  pub going : (xs ys : List Assertion) → AreTheses items ps xs → AreTheses items es ys
      → option_map (λ (as' : List Argument). map (argument_in ts) list ++ as') (rights (drop k (statements xs)) (drop used (statements ys))) ≡ rights (statements xs) (statements ys)

same_map : (o : Option (List Argument)) → option_map (λ (as' : List Argument). [] ++ as') o ≡ o
same_map None = refl
same_map (Some x) = refl

pub rights_start : (items : List Item) (ps es : List ℕ) (ts : List Expression) → RightsSoFar items ps es 0 0 ts []
rights_start items ps es ts = record { within = omega arith; below = tt; going = λ xs ys h g. same_map (rights (statements xs) (statements ys)) }

more_map : (zs : List Argument) (a : Argument) (o : Option (List Argument)) → option_map (λ (as' : List Argument). (zs ++ a ∷ []) ++ as') o ≡ option_map (λ (as' : List Argument). zs ++ as') (option_map (λ (as' : List Argument). a ∷ as') o)
more_map zs a None = refl
more_map zs a (Some bs) = ap Some (append_assoc zs (a ∷ []) bs)

pub rights_more : (items : List Item) (ps es : List ℕ) (k used p : ℕ) (ts : List Expression) (list new : List Arg) (o : Option Next) (x : Next) → RightsSoFar items ps es k used ts list → k < length ps → p ≡ get_or ps k 0
    → ((a : Assertion) (ys : List Assertion) → entry_named (store_of items) p ≡ Some a → is_thesis a.statement ≡ true → AreTheses items es ys → option_map (next_in ts (statements ys)) o ≡ right_and_rest a.statement (drop used (statements ys)))
    → o ≡ Some x → x.used ≤ length es → BodyBelow (length ts) x.argument.body → new ≡ list ++ x.argument ∷ [] → RightsSoFar items ps es (k + 1) x.used ts new
rights_more items ps es k used p ts list new o x h l e f s u b z = subst (RightsSoFar items ps es (k + 1) x.used ts) (sym z)
    (record {
      within = u;
      below = arguments_push (length ts) list x.argument h.below b;
      going = λ xs ys q r.
          let one = standing items ps xs k p q l e in
          let there : Some (next_in ts (statements ys) x) ≡ right_and_rest one.one.statement (drop used (statements ys)) = sym (ap (option_map (next_in ts (statements ys))) s) ∙ f one.one ys one.is one.thesis r in
          ap (λ zs. option_map (λ (as' : List Argument). zs ++ as') (rights (drop (k + 1) (statements xs)) (drop x.used (statements ys)))) (map-append (argument_in ts) list (x.argument ∷ []))
          ∙ more_map (map (argument_in ts) list) (argument_in ts x.argument) (rights (drop (k + 1) (statements xs)) (drop x.used (statements ys)))
          ∙ ap (λ o. option_map (λ (as' : List Argument). map (argument_in ts) list ++ as') (option_and_then (λ (s : Argument × List Statement). option_map (λ (as' : List Argument). s.0 ∷ as') (rights (drop (k + 1) (statements xs)) s.1)) o)) there
          ∙ ap (λ zs. option_map (λ (as' : List Argument). map (argument_in ts) list ++ as') (rights zs (drop used (statements ys)))) (sym one.rest)
          ∙ h.going xs ys q r;
    })

-- where the next thesis has no equation
pub rights_not : (items : List Item) (ps es : List ℕ) (k used p : ℕ) (ts : List Expression) (list : List Arg) (o : Option Next) (xs ys : List Assertion) → RightsSoFar items ps es k used ts list → k < length ps → p ≡ get_or ps k 0
    → ((a : Assertion) (ys : List Assertion) → entry_named (store_of items) p ≡ Some a → is_thesis a.statement ≡ true → AreTheses items es ys → option_map (next_in ts (statements ys)) o ≡ right_and_rest a.statement (drop used (statements ys)))
    → o ≡ None → AreTheses items ps xs → AreTheses items es ys → false ≡ start_all (statements xs) (statements ys)
rights_not items ps es k used p ts list o xs ys h l e f s q r =
    let one = standing items ps xs k p q l e in
    let there : None ≡ right_and_rest one.one.statement (drop used (statements ys)) = sym (ap (option_map (next_in ts (statements ys))) s) ∙ f one.one ys one.is one.thesis r in
    let none : None ≡ rights (drop k (statements xs)) (drop used (statements ys)) =
    ap (option_and_then (λ (s : Argument × List Statement). option_map (λ (as' : List Argument). s.0 ∷ as') (rights (drop (k + 1) (statements xs)) s.1))) there ∙ ap (λ zs. rights zs (drop used (statements ys))) (sym one.rest) in
    ap is_some (ap (option_map (λ (as' : List Argument). map (argument_in ts) list ++ as')) none ∙ h.going xs ys q r) ∙ start_rights (statements xs) (statements ys)

-- where equations are left over
pub rights_over : (items : List Item) (ps es : List ℕ) (k used : ℕ) (ts : List Expression) (list : List Arg) (xs ys : List Assertion) → RightsSoFar items ps es k used ts list → length ps ≤ k → used < length es
    → AreTheses items ps xs → AreTheses items es ys → false ≡ start_all (statements xs) (statements ys)
rights_over items ps es k used ts list xs ys h l u q r =
    let one = standing items es ys used (get_or es used 0) r u refl in
    let none : None ≡ rights (drop k (statements xs)) (drop used (statements ys)) = sym (ap₂ rights (none_left items ps xs k q l) one.rest) in
    ap is_some (ap (option_map (λ (as' : List Argument). map (argument_in ts) list ++ as')) none ∙ h.going xs ys q r) ∙ start_rights (statements xs) (statements ys)

-- where all is done
all_there : (items : List Item) (ps es : List ℕ) (k used : ℕ) (ts : List Expression) (list : List Arg) (xs ys : List Assertion) → RightsSoFar items ps es k used ts list → length ps ≤ k → length es ≤ used
    → AreTheses items ps xs → AreTheses items es ys → Some (map (argument_in ts) list) ≡ rights (statements xs) (statements ys)
all_there items ps es k used ts list xs ys h l u q r =
    ap Some (sym (append-nil (map (argument_in ts) list)))
    ∙ ap (option_map (λ (as' : List Argument). map (argument_in ts) list ++ as')) (sym (ap₂ rights (none_left items ps xs k q l) (none_left items es ys used r u)))
    ∙ h.going xs ys q r

pub rights_all : (items : List Item) (ps es : List ℕ) (k used : ℕ) (ts : List Expression) (list : List Arg) (xs ys : List Assertion) → RightsSoFar items ps es k used ts list → length ps ≤ k → length es ≤ used
    → AreTheses items ps xs → AreTheses items es ys → true ≡ start_all (statements xs) (statements ys)
rights_all items ps es k used ts list xs ys h l u q r = ap is_some (all_there items ps es k used ts list xs ys h l u q r) ∙ start_rights (statements xs) (statements ys)

pub rights_are : (items : List Item) (ps es : List ℕ) (k used : ℕ) (ts : List Expression) (list : List Arg) (xs ys : List Assertion) → RightsSoFar items ps es k used ts list → length ps ≤ k → length es ≤ used
    → AreTheses items ps xs → AreTheses items es ys → arguments_in ts list ≡ right_heads (statements xs) (statements ys)
rights_are items ps es k used ts list xs ys h l u q r = right_rights (statements xs) (statements ys) (map (argument_in ts) list) (sym (all_there items ps es k used ts list xs ys h l u q r))
