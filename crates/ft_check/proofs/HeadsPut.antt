-- The heads of theses, put one by one, and what has to be the same, compared one by one.
use Rattle.std.proofs.Common.{◌≡◌, ℕ, zero, suc, ◌+◌, ◌<◌, ◌≤◌, Bool, true, false, cond, ◌&&◌, Option, Some, None, List, [], ◌∷◌, ◌++◌, refl, sym, ap, ap₂, ◌∙◌, subst, length, drop, map, get_or, arith}
use Rattle.std.specs.Prelude.{option_map, min}
use mathlib.Core.Path.{fun_ext}
use Rattle.std.proofs.lemmas.List.{append_assoc, append-nil, drop_all, drop_more, map-append}
use Rattle.std.proofs.Math.ListN.{drop_of_length-le}
use Rattle.std.proofs.lemmas.Option.{same_Some}
use Rattle.ft_theory.specs.Expressions.{Expression, Arguments, with_body, dummy}
use Rattle.ft_theory.specs.Statements.{Statement, plain, domain_count}
use Rattle.ft_theory.specs.Rules.{instance_of}
use Rattle.ft_items.specs.Sets.{Atom}
use Rattle.ft_items.specs.Equal.{is_thesis, has_head, head, heads}
use Rattle.ft_items.specs.Store.{Assertion, Store, each, entry_named}
use Rattle.ft_items.specs.Rows.{statements}
use Rattle.ft_items.specs.Good.{all_theses}
use Rattle.ft_items.proofs.SetLemmas.{both}
use Rattle.ft_syntax.specs.Arguments.{Argument, as_arguments, with_argument}
use Rattle.ft_syntax.specs.Laws.{arguments_below_extends, arguments_extend, arguments_push}
use Rattle.ft_syntax.specs.Instances.{instance_in, PairsBelow}
use Rattle.ft_syntax.specs.Table.{tree, Extends, argument_in, arguments_in, ArgumentsBelow, BodyBelow}
use Rattle.ft_syntax.specs.declared.syntax.Arg.{Arg}
use Rattle.ft_judge.specs.Meaning.{claim_in, under, thesis_in, boundary_in, head_of_form, head_of_thesis, FormBelow, ThesisBelow}
use Rattle.ft_judge.specs.declared.judgement.Form.{Form}
use Rattle.ft_judge.specs.declared.judgement.Form.TheVariants as form
use Rattle.ft_judge.specs.declared.judgement.Thesis.{Thesis as ThesisValue}
use Rattle.ft_judge.specs.declared.judgement.Boundary.{Boundary as BoundaryValue}
use Rattle.ft_check.specs.Comparing.{same_at, all_same, paired, ComparedBelow}
use Rattle.ft_check.specs.Putting.{head_argument}
use Rattle.ft_check.specs.declared.compare.Compared.{Compared}
use Rattle.ft_check.proofs.Basics.{each_first}
use Rattle.ft_check.proofs.OfKind.{boundary_is}
use Rattle.ft_common.proofs.Options.{none_some}
use Rattle.ft_check.proofs.PutTogether.{paired_instance}

pub arguments_stay : (ts us : List Expression) (as' : List Arg) → Extends ts us → ArgumentsBelow (length ts) as' → arguments_in us as' ≡ arguments_in ts as'
arguments_stay ts us as' x h = ap as_arguments (arguments_extend ts us as' x h)

-- The head of a thesis.
head_is : (ts : List Expression) (As : List ℕ) (f : Form) → (length As, option_map (tree ts) (head_of_form f)) ≡ head_argument (under ts As (plain (claim_in ts f)))
head_is ts [] (form.Ty A) = refl
head_is ts [] (form.Tm t A) = refl
head_is ts [] (form.EqTy A B) = refl
head_is ts [] (form.EqTm s t A) = refl
head_is ts (B ∷ As) f = ap (λ (p : Argument). (suc p.0, p.1)) (head_is ts As f)

pub head_taken : (ts : List Expression) (x : ThesisValue) (S : List Atom) (h : Arg) (r : Argument) (a : Assertion) (o : Option Assertion) → Some (record { statement = thesis_in ts x; set = S }) ≡ o → h ≡ head_of_thesis x → r ≡ argument_in ts h → o ≡ Some a → r ≡ head_argument a.statement
head_taken ts x S h r a o e k q t =
    q ∙ ap (argument_in ts) k ∙ head_is ts x.domains x.form ∙ ap (λ (b : Assertion). head_argument b.statement) (same_Some (record { statement = thesis_in ts x; set = S }) a (e ∙ t))

pub head_below : (n : ℕ) (x : ThesisValue) (h : Arg) → ThesisBelow n x → h ≡ head_of_thesis x → BodyBelow n h.body
head_below n x h b e = subst (λ (k : Arg). BodyBelow n k.body) (sym e) (go x.form b.1)
  where
    go : (f : Form) → FormBelow n f → BodyBelow n (head_of_form f)
    go (form.Ty A) l = l
    go (form.Tm t A) l = l.0
    go (form.EqTy A B) l = tt
    go (form.EqTm s t A) l = tt

pub no_entry : {P : Type 0} (o : Option Assertion) (a : Assertion) → None ≡ o → o ≡ Some a → P
no_entry o a e t = none_some (e ∙ t)

pub no_thesis : {P : Type 0} (ts : List Expression) (x : BoundaryValue) (S : List Atom) (o : Option Assertion) (a : Assertion) → Some (record { statement = boundary_in ts x; set = S }) ≡ o → o ≡ Some a → is_thesis a.statement ≡ true → P
no_thesis ts x S o a e t h =
    let clash : false ≡ true = boundary_is ts x ∙ ap (λ (b : Assertion). is_thesis b.statement) (same_Some (record { statement = boundary_in ts x; set = S }) a (e ∙ t)) ∙ h in
    cc

-- The first k heads are in the table, and the others are to come.
pub record Heading (W : Store) (ps : List ℕ) (k : ℕ) (ts : List Expression) (as' : List Arg) (given : List Assertion) : Type 0 where
  pub rest : List Assertion
  pub are : each (entry_named W) (drop k ps) ≡ Some rest
  pub theses : all_theses rest ≡ true
  pub same : map (argument_in ts) as' ++ map head_argument (statements rest) ≡ map head_argument (statements given)

pub record HeadsSoFar (W : Store) (ps : List ℕ) (k : ℕ) (ts : List Expression) (as' : List Arg) : Type 0 where
  pub below : ArgumentsBelow (length ts) as'
  pub going : (given : List Assertion) → each (entry_named W) ps ≡ Some given → all_theses given ≡ true → Heading W ps k ts as' given

pub heading_start : (W : Store) (ps : List ℕ) (ts : List Expression) → HeadsSoFar W ps 0 ts []
heading_start W ps ts = record { below = tt; going = λ given e t. record { rest = given; are = e; theses = t; same = refl } }

pub heading_more : (W : Store) (ps : List ℕ) (k p : ℕ) (ts us : List Expression) (as' bs : List Arg) (x : Arg) → HeadsSoFar W ps k ts as' → k < length ps → p ≡ get_or ps k 0 → Extends ts us → BodyBelow (length us) x.body
    → ((a : Assertion) → entry_named W p ≡ Some a → is_thesis a.statement ≡ true → argument_in us x ≡ head_argument a.statement) → bs ≡ as' ++ x ∷ [] → HeadsSoFar W ps (k + 1) us bs
heading_more W ps k p ts us as' bs x m l e g b f z = subst (HeadsSoFar W ps (k + 1) us) (sym z)
    (record {
      below = arguments_push (length us) as' x (arguments_below_extends ts us as' g m.below) b;
      going = λ given q t. one given (m.going given q t);
    })
  where
    one : (given : List Assertion) → Heading W ps k ts as' given → Heading W ps (k + 1) us (as' ++ x ∷ []) given
    one given h =
        let s = each_first (entry_named W) p (drop (k + 1) ps) h.rest (ap (λ n. each (entry_named W) (n ∷ drop (k + 1) ps)) e ∙ sym (ap (each (entry_named W)) (drop_more ps k 0 l)) ∙ h.are) in
        let w = both (is_thesis s.0.statement) (all_theses s.1) (sym (ap all_theses s.4) ∙ h.theses) in
        record {
          rest = s.1;
          are = s.3;
          theses = w.1;
          same = ap (λ z. z ++ map head_argument (statements s.1)) (map-append (argument_in us) as' (x ∷ []))
              ∙ append_assoc (map (argument_in us) as') (argument_in us x ∷ []) (map head_argument (statements s.1))
              ∙ ap₂ (λ z y. z ++ y ∷ map head_argument (statements s.1)) (arguments_extend ts us as' g m.below) (f s.0 s.2 w.0)
              ∙ ap (λ z. map (argument_in ts) as' ++ map head_argument (statements z)) (sym s.4)
              ∙ h.same;
        }

heads_as : (xs : List Statement) → as_arguments (map head_argument xs) ≡ heads xs
heads_as [] = refl
heads_as (x ∷ xs) = ap (with_argument (head_argument x)) (heads_as xs) ∙ go (has_head x)
  where
    go : (b : Bool) → with_argument (domain_count x, cond b (Some (head x)) None) (heads xs) ≡ cond b (with_body (domain_count x) (head x) (heads xs)) (dummy (domain_count x) (heads xs))
    go true = refl
    go false = refl

pub heading_end : (W : Store) (ps : List ℕ) (k : ℕ) (ts : List Expression) (as' : List Arg) (given : List Assertion) → HeadsSoFar W ps k ts as' → length ps ≤ k → each (entry_named W) ps ≡ Some given → all_theses given ≡ true
    → arguments_in ts as' ≡ heads (statements given)
heading_end W ps k ts as' given m l e t =
    let h : Heading W ps k ts as' given = m.going given e t in
    let none : [] ≡ h.rest = same_Some [] h.rest (sym (ap (each (entry_named W)) (drop_of_length-le ps l)) ∙ h.are) in
    ap as_arguments (sym (append-nil (map (argument_in ts) as')) ∙ ap (λ z. map (argument_in ts) as' ++ map head_argument (statements z)) none ∙ h.same) ∙ heads_as (statements given)

-- The pairs, one by one.
pub pairing_more : (ms : List ℕ) (as' : List Arg) (k m : ℕ) (a d : Arg) (ps qs rs : List (ℕ × Arg)) → k < length ms → k < length as' → m ≡ get_or ms k 0 → a ≡ get_or as' k d → ps ++ paired (drop k ms) (drop k as') ≡ rs → qs ≡ ps ++ (m, a) ∷ []
    → qs ++ paired (drop (k + 1) ms) (drop (k + 1) as') ≡ rs
pairing_more ms as' k m a d ps qs rs l n e f h g =
    ap (λ z. z ++ paired (drop (k + 1) ms) (drop (k + 1) as')) g
    ∙ append_assoc ps ((m, a) ∷ []) (paired (drop (k + 1) ms) (drop (k + 1) as'))
    ∙ ap₂ (λ m a. ps ++ (m, a) ∷ paired (drop (k + 1) ms) (drop (k + 1) as')) e f
    ∙ sym (ap₂ (λ ms as'. ps ++ paired ms as') (drop_more ms k 0 l) (drop_more as' k d n))
    ∙ h

paired_none : (ms : List ℕ) → paired ms [] ≡ []
paired_none [] = refl
paired_none (m ∷ ms) = refl

paired_over : (ms : List ℕ) (as' : List Arg) (k : ℕ) → min (length ms) (length as') ≤ k → paired (drop k ms) (drop k as') ≡ []
paired_over [] as' k l = ap (λ z. paired z (drop k as')) (drop_all k [] (omega arith))
paired_over (m ∷ ms) [] k l = ap (paired (drop k (m ∷ ms))) (drop_all k [] (omega arith)) ∙ paired_none (drop k (m ∷ ms))
paired_over (m ∷ ms) (a ∷ as') zero l = absurd (grind (arith, l))
paired_over (m ∷ ms) (a ∷ as') (suc k) l = paired_over ms as' k (grind (arith, l))

pub pairing_end : (ms : List ℕ) (as' : List Arg) (k : ℕ) (ps rs : List (ℕ × Arg)) → min (length ms) (length as') ≤ k → ps ++ paired (drop k ms) (drop k as') ≡ rs → ps ≡ rs
pairing_end ms as' k ps rs l h = sym (append-nil ps) ∙ ap (λ z. ps ++ z) (sym (paired_over ms as' k l)) ∙ h

pub pairs_below : (n : ℕ) (ms : List ℕ) (as' : List Arg) (ps : List (ℕ × Arg)) → ArgumentsBelow n as' → ps ≡ paired ms as' → PairsBelow n ps
pairs_below n ms as' ps h e = subst (PairsBelow n) (sym e) (go ms as' h)
  where
    go : (ms : List ℕ) (as' : List Arg) → ArgumentsBelow n as' → PairsBelow n (paired ms as')
    go [] as' h = tt
    go (m ∷ ms) [] h = tt
    go (m ∷ ms) (a ∷ as') h = (h.0, go ms as' h.1)

pub instance_is : (ts : List Expression) (ms : List ℕ) (as' : List Arg) (ps : List (ℕ × Arg)) (qs : List (ℕ × Statement)) (a : Arguments) → ps ≡ paired ms as' → arguments_in ts as' ≡ a → map (λ (q : ℕ × Statement). q.0) qs ≡ ms → instance_in ts ps ≡ instance_of qs a
instance_is ts ms as' ps qs a e f g =
    ap (instance_in ts) (e ∙ ap (λ ms. paired ms as') (sym g)) ∙ fun_ext (λ m. fun_ext (λ k. paired_instance ts qs as' m k)) ∙ ap (instance_of qs) f

-- What has to be the same, one by one.
all_at : (ts : List Expression) (j : Expression → Expression) (list : List Compared) (k : ℕ) (d p : Compared) → k < length list → p ≡ get_or list k d → all_same ts j (drop k list) ≡ (same_at ts j p && all_same ts j (drop (k + 1) list))
all_at ts j list k d p l e = ap (all_same ts j) (drop_more list k d l) ∙ ap (λ q. same_at ts j q && all_same ts j (drop (k + 1) list)) (sym e)

pub all_next : (ts : List Expression) (j : Expression → Expression) (list : List Compared) (k : ℕ) (d p : Compared) (a b : Bool) → a ≡ all_same ts j (drop k list) → k < length list → p ≡ get_or list k d → b ≡ same_at ts j p → b ≡ true → a ≡ all_same ts j (drop (k + 1) list)
all_next ts j list k d p a b h l e f t = h ∙ all_at ts j list k d p l e ∙ ap (λ c. c && all_same ts j (drop (k + 1) list)) (sym f ∙ t)

pub all_not : (ts : List Expression) (j : Expression → Expression) (list : List Compared) (k : ℕ) (d p : Compared) (a b : Bool) → a ≡ all_same ts j (drop k list) → k < length list → p ≡ get_or list k d → b ≡ same_at ts j p → b ≡ false → false ≡ a
all_not ts j list k d p a b h l e f t = sym (h ∙ all_at ts j list k d p l e ∙ ap (λ c. c && all_same ts j (drop (k + 1) list)) (sym f ∙ t))

pub all_end : (ts : List Expression) (j : Expression → Expression) (list : List Compared) (k : ℕ) (a : Bool) → a ≡ all_same ts j (drop k list) → length list ≤ k → true ≡ a
all_end ts j list k a h l = sym (h ∙ ap (all_same ts j) (drop_of_length-le list l))

pub compared_at : (n : ℕ) (list : List Compared) (k : ℕ) (d p : Compared) → ComparedBelow n list → k < length list → p ≡ get_or list k d → (p.found < n) × (p.wanted < n)
compared_at n [] k d p h l e = absurd (omega (arith, l))
compared_at n (q ∷ list) zero d p h l e = subst (λ (x : Compared). (x.found < n) × (x.wanted < n)) (sym e) (h.0, h.1)
compared_at n (q ∷ list) (suc k) d p h l e = compared_at n list k d p h.2 (omega (arith, l)) e
