-- The claims of arguments, one by one.
use Rattle.std.proofs.Common.{◌≡◌, ◌∙◌, sym, ap, refl, subst, ℕ, zero, suc, ◌+◌, ◌<◌, ◌≤◌, List, [], ◌∷◌, ◌++◌, map, take, drop, length, get_or, Option, Some, None, option_map, option_and_then, arith}
use Rattle.std.proofs.lemmas.List.{map-append, take-append-drop, take_all}
use Rattle.std.proofs.lemmas.Option.{none-some, same_Some}
use Rattle.std.proofs.Math.Seq.{take-suc, drop-cons}
use Rattle.ft_theory.specs.Statements.{Claim}
use Rattle.ft_theory.specs.Rules.{Rule}
use Rattle.ft_applications_meaning.specs.declared.syntax.Application.{Application}
use Rattle.ft_applications_meaning.specs.declared.syntax.Application.TheOpen.{Application-F}
use Rattle.ft_applications_meaning.specs.declared.syntax.Application.TheFolds.{fold-roll-Application}
use Rattle.ft_applications_meaning.specs.declared.syntax.Application as opened
use Rattle.ft_applications_meaning.specs.declared.syntax.Application.TheVariants as application
use Rattle.ft_applications_meaning.specs.Building.{Declaration, claim_of, claim_of_layer, all_of, first_named, rule_at_arguments}
use Rattle.ft_judge.specs.Meaning.{claim_in}
use Rattle.ft_run.specs.declared.session.Claimed.{Claimed}
use Rattle.ft_run.specs.Session.{Progress, IsClaimed, AreClaimed, claims_in, Keeps}
use Rattle.ft_run.specs.Claiming.{named_at}
use Rattle.ft_run.proofs.Nodes.{nodes, nodes_in_layer, total}
use Rattle.ft_run.proofs.Keeping.{all_claimed_kept}

-- what an application claims, by its arguments
pub claim_of_apply : (ds : List Declaration) (n : List ℕ) (as' : List Application) → claim_of ds (application.Apply n as') ≡ claim_of_layer ds (Application-F.Apply n (map (claim_of ds) as'))
unfolding opened.roll-Application denote.Hole.Carrier.roll
claim_of_apply ds n as' = fold-roll-Application (Option Claim) (claim_of_layer ds) (Application-F.Apply n as')

nodes_of_apply : (n : List ℕ) (as' : List Application) → nodes (application.Apply n as') ≡ suc (total (map nodes as'))
unfolding opened.roll-Application denote.Hole.Carrier.roll
nodes_of_apply n as' = fold-roll-Application ℕ nodes_in_layer (Application-F.Apply n as')

part_of_total : (as' : List Application) (i : ℕ) (a : Application) → i < length as' → a ≡ get_or as' i a → nodes a ≤ total (map nodes as')
part_of_total [] i a l e = absurd (omega arith)
part_of_total (b ∷ as') zero a l e = let z = ap nodes e in omega arith
part_of_total (b ∷ as') (suc i) a l e = let m : i < length as' = omega arith in let h = part_of_total as' i a m e in omega arith

-- an argument has fewer nodes
pub argument_smaller : (b : Application) (n : List ℕ) (as' : List Application) (i : ℕ) (a : Application) → b ≡ application.Apply n as' → i < length as' → a ≡ get_or as' i a → nodes a < nodes b
argument_smaller b n as' i a e l f =
    let h = part_of_total as' i a l f in
    let z = ap nodes e ∙ nodes_of_apply n as' in
    omega arith

all_of_last : (os : List (Option Claim)) (cs : List Claim) (c : Claim) → all_of os ≡ Some cs → all_of (os ++ Some c ∷ []) ≡ Some (cs ++ c ∷ [])
all_of_last [] cs c e = ap (λ cs. Some (cs ++ c ∷ [])) (same_Some [] cs e)
all_of_last (None ∷ os) cs c e = absurd (none-some cs e)
all_of_last (Some d ∷ os) cs c e = go (all_of os) (λ ds. all_of_last os ds c) e
  where
    go : (r : Option (List Claim)) → ((ds : List Claim) → r ≡ Some ds → all_of (os ++ Some c ∷ []) ≡ Some (ds ++ c ∷ [])) → option_map (λ ds. d ∷ ds) r ≡ Some cs
        → option_map (λ ds. d ∷ ds) (all_of (os ++ Some c ∷ [])) ≡ Some (cs ++ c ∷ [])
    go None h e = absurd (none-some cs e)
    go (Some ds) h e = ap (option_map (λ ds. d ∷ ds)) (h ds refl) ∙ ap (λ cs. Some (cs ++ c ∷ [])) (same_Some (d ∷ ds) cs e)

all_of_none : (os ps : List (Option Claim)) → all_of (os ++ None ∷ ps) ≡ None
all_of_none [] ps = refl
all_of_none (None ∷ os) ps = refl
all_of_none (Some c ∷ os) ps = ap (option_map (λ cs. c ∷ cs)) (all_of_none os ps)

claimed_last : (q : Progress) (xs : List Claimed) (x : Claimed) → AreClaimed q.state xs → IsClaimed q.state x → AreClaimed q.state (xs ++ x ∷ [])
claimed_last q [] x h g = (g, tt)
claimed_last q (y ∷ xs) x h g = (h.0, claimed_last q xs x h.1 g)

layer_none : (ds : List Declaration) (n : List ℕ) (os : List (Option Claim)) → all_of os ≡ None → claim_of_layer ds (Application-F.Apply n os) ≡ None
layer_none ds n os e = ap (λ o. option_and_then (λ r. option_and_then (rule_at_arguments r) o) (first_named zero ds n)) e ∙ nothing (first_named zero ds n)
  where
    nothing : (o : Option (ℕ × Rule)) → option_and_then (λ r. option_and_then (rule_at_arguments r) None) o ≡ None
    nothing None = refl
    nothing (Some r) = refl

-- one more argument
pub given_next : (p q : Progress) (xs ys : List Claimed) (x : Claimed) → Keeps p q → AreClaimed p.state xs → IsClaimed q.state x → ys ≡ xs ++ x ∷ [] → AreClaimed q.state ys
given_next p q xs ys x k h g e = subst (AreClaimed q.state) (sym e) (claimed_last q xs x (all_claimed_kept p q xs k h).1 g)

pub claims_next : (ds : List Declaration) (p q : Progress) (as' : List Application) (i : ℕ) (a : Application) (xs ys : List Claimed) (x : Claimed) → Keeps p q → AreClaimed p.state xs → p.rules ≡ ds
    → i < length as' → a ≡ get_or as' i a → claim_of p.rules a ≡ Some (claim_in q.state.trees x.form) → ys ≡ xs ++ x ∷ []
    → all_of (map (claim_of ds) (take i as')) ≡ Some (claims_in p.state.trees xs) → all_of (map (claim_of ds) (take (i + 1) as')) ≡ Some (claims_in q.state.trees ys)
claims_next ds p q as' i a xs ys x k h r l e claim more before =
    let one : i + 1 ≡ suc i = omega arith in
    let taken : take (i + 1) as' ≡ take i as' ++ a ∷ [] = ap (λ n. take n as') one ∙ take-suc as' i a l ∙ ap (λ b. take i as' ++ b ∷ []) (sym e) in
    ap (λ bs. all_of (map (claim_of ds) bs)) taken
    ∙ ap all_of (map-append (claim_of ds) (take i as') (a ∷ []))
    ∙ ap (λ o. all_of (map (claim_of ds) (take i as') ++ o ∷ [])) (ap (λ ds. claim_of ds a) (sym r) ∙ claim)
    ∙ all_of_last (map (claim_of ds) (take i as')) (claims_in p.state.trees xs) (claim_in q.state.trees x.form) before
    ∙ ap (λ cs. Some (cs ++ claim_in q.state.trees x.form ∷ [])) (sym (all_claimed_kept p q xs k h).0)
    ∙ ap Some (sym (map-append (λ (x : Claimed). claim_in q.state.trees x.form) xs (x ∷ [])))
    ∙ ap (λ ys. Some (claims_in q.state.trees ys)) (sym more)

-- an argument that claims nothing
pub claims_none : (ds : List Declaration) (p : Progress) (as' : List Application) (i : ℕ) (a b : Application) (n : List ℕ) → p.rules ≡ ds → b ≡ application.Apply n as' → i < length as' → a ≡ get_or as' i a
    → claim_of p.rules a ≡ None → claim_of ds b ≡ None
claims_none ds p as' i a b n r t l e none =
    let split : as' ≡ take i as' ++ a ∷ drop (suc i) as' = sym (take-append-drop i as') ∙ ap (λ ds. take i as' ++ ds) (drop-cons as' i a l ∙ ap (λ b. b ∷ drop (suc i) as') (sym e)) in
    ap (claim_of ds) t ∙ claim_of_apply ds n as'
    ∙ ap (λ bs. claim_of_layer ds (Application-F.Apply n (map (claim_of ds) bs))) split
    ∙ ap (λ os. claim_of_layer ds (Application-F.Apply n os)) (map-append (claim_of ds) (take i as') (a ∷ drop (suc i) as'))
    ∙ ap (λ o. claim_of_layer ds (Application-F.Apply n (map (claim_of ds) (take i as') ++ o ∷ map (claim_of ds) (drop (suc i) as')))) (ap (λ ds. claim_of ds a) (sym r) ∙ none)
    ∙ layer_none ds n (map (claim_of ds) (take i as') ++ None ∷ map (claim_of ds) (drop (suc i) as')) (all_of_none (map (claim_of ds) (take i as')) (map (claim_of ds) (drop (suc i) as')))

-- what an application claims, where all its arguments have claims
pub claim_named : (ds : List Declaration) (p : Progress) (as' : List Application) (i : ℕ) (b : Application) (n : List ℕ) (cs : List Claim) → p.rules ≡ ds → b ≡ application.Apply n as' → length as' ≤ i
    → all_of (map (claim_of ds) (take i as')) ≡ Some cs → claim_of ds b ≡ named_at p.rules n cs
claim_named ds p as' i b n cs r t l e =
    let all : map (claim_of ds) as' ≡ map (claim_of ds) (take i as') = ap (map (claim_of ds)) (sym (take_all i as' l)) in
    ap (claim_of ds) t ∙ claim_of_apply ds n as'
    ∙ ap (λ o. option_and_then (λ r. option_and_then (rule_at_arguments r) o) (first_named zero ds n)) (ap all_of all ∙ e)
    ∙ ap (λ ds. named_at ds n cs) (sym r)
