-- Premises of rules and boundaries of metavariables, as they are read.
use Rattle.std.proofs.Common.{◌≡◌, ◌∙◌, ◌⊎◌, inl, inr, ℕ, zero, suc, ◌<◌, ◌≤◌, Option, Some, None, List, [], ◌∷◌, length, refl, sym, ap, ap₂, subst, Bor}
use Rattle.std.specs.Prelude.{option_map, option_and_then, slice_get, IfSome}
use Rattle.std.specs.Slice.{IsItemAt}
use Rattle.std.proofs.lemmas.Bool.{cases_lt}
use Rattle.std.proofs.lemmas.Option.{same_Some, slice_get-get_or, slice_get_past}
use Rattle.ft_common.proofs.Options.{none_some}
use Rattle.ft_theory.specs.Expressions.{Expression, free}
use Rattle.ft_theory.specs.Statements.{Claim, plain, abstracted, act_statement, fill_goal, fill}
use Rattle.ft_theory.specs.Rules.{rule_at}
use Rattle.ft_items.specs.Good.{Good}
use Rattle.ft_items.specs.Store.{Declared, Declarations, premises_of, nth, each, metavariable_named, metavariables_in, declared_by}
use Rattle.ft_syntax.specs.Table.{tree, Extends, AllBelow}
use Rattle.ft_syntax.specs.Instances.{instance_in, PairsBelow}
use Rattle.ft_syntax.specs.Laws.{instance_extends}
use Rattle.ft_syntax.specs.declared.syntax.Arg.{Arg}
use Rattle.ft_judge.specs.Meaning.{claim_in, goal_in, under, thesis_in, boundary_in, BoundaryBelow}
use Rattle.ft_judge.specs.Laws.{boundary_extends}
use Rattle.ft_judge.specs.declared.judgement.Boundary.{Boundary}
use Rattle.ft_judge.specs.declared.judgement.Form.{Form}
use Rattle.ft_kernel.specs.State.{State, statement_at}
use Rattle.ft_calls.proofs.Entries.{stated_is}
use Rattle.ft_parts.specs.Types.{instance_at}
use Rattle.ft_parts.specs.Instances.{boundary_at}
use Rattle.ft_parts.specs.Places.{boundary_of_met, nth_domain, domain_at}
use Rattle.ft_parts.proofs.Lines.{IsMet, no_met}

-- Premises.

-- the metavariable of a premise is declared, and its boundary is the premise's
pub premise_named : (W : Declarations) (ms : List ℕ) (ds : List (ℕ × Declared)) (n m : ℕ) → each (metavariable_named W) ms ≡ Some ds → slice_get ms n ≡ Some m
    → (d : Declared) × (nth W.metavariables m ≡ Some d) × (nth (premises_of ds) n ≡ Some (m, d.boundary))
premise_named W [] ds n m h k = none_some k
premise_named W (l ∷ ms) ds n m h k = go (nth W.metavariables l) (each (metavariable_named W) ms) refl refl h n k (λ more n. premise_named W ms more n m)
  where
    go : (o : Option Declared) (os : Option (List (ℕ × Declared))) → nth W.metavariables l ≡ o → each (metavariable_named W) ms ≡ os → option_and_then (λ d. option_map (λ ds. d ∷ ds) os) (option_map (λ d. (l, d)) o) ≡ Some ds
        → (n : ℕ) → slice_get (l ∷ ms) n ≡ Some m
        → ((more : List (ℕ × Declared)) (n : ℕ) → each (metavariable_named W) ms ≡ Some more → slice_get ms n ≡ Some m → (d : Declared) × (nth W.metavariables m ≡ Some d) × (nth (premises_of more) n ≡ Some (m, d.boundary)))
        → (d : Declared) × (nth W.metavariables m ≡ Some d) × (nth (premises_of ds) n ≡ Some (m, d.boundary))
    go None os e f q n j ih = none_some q
    go (Some d) None e f q n j ih = none_some q
    go (Some d) (Some more) e f q zero j ih =
        let same : l ≡ m = same_Some l m j in
        (d, ap (nth W.metavariables) (sym same) ∙ e, ap (λ ds. nth (premises_of ds) zero) (sym (same_Some ((l, d) ∷ more) ds q)) ∙ ap (λ (m : ℕ). Some (m, d.boundary)) same)
    go (Some d) (Some more) e f q (suc n) j ih =
        let r : (d : Declared) × (nth W.metavariables m ≡ Some d) × (nth (premises_of more) n ≡ Some (m, d.boundary)) = ih more n f j in
        (r.0, r.1, ap (λ ds. nth (premises_of ds) (suc n)) (sym (same_Some ((l, d) ∷ more) ds q)) ∙ r.2)

pub premise_below : (s : State) (m : ℕ) (d : Declared) → Good s.items → nth (declared_by s.items).metavariables m ≡ Some d → m < length (metavariables_in s.items)
premise_below s m d g h = go (cases_lt m (length (metavariables_in s.items)))
  where
    go : (m < length (metavariables_in s.items)) ⊎ (length (metavariables_in s.items) ≤ m) → m < length (metavariables_in s.items)
    go (inl l) = l
    go (inr l) = none_some (sym (no_met s m g l) ∙ h)

-- Domains.

pub item_got : (xs : List ℕ) (i : ℕ) (r : Option (Bor ℕ)) → IsItemAt xs i r → option_map (λ (x : Bor ℕ). x.now) r ≡ slice_get xs i
item_got xs i None h = sym (slice_get_past xs i h.3)
item_got xs i (Some x) h = sym (slice_get-get_or xs i x.now h.3.0 ∙ ap Some (sym h.1))

pub got_below : (n i : ℕ) (ds : List ℕ) (o : Option ℕ) → o ≡ slice_get ds i → AllBelow n ds → IfSome o (λ e. e < n)
got_below n i ds o e h = subst (λ o. IfSome o (λ e. e < n)) (sym e) (go ds i h)
  where
    go : (ds : List ℕ) (i : ℕ) → AllBelow n ds → IfSome (slice_get ds i) (λ e. e < n)
    go [] i h = tt
    go (d ∷ ds) zero h = h.0
    go (d ∷ ds) (suc i) h = go ds i h.1

domain_under : (ts : List Expression) (ds : List ℕ) (c : Claim) (n : ℕ) → option_map (tree ts) (slice_get ds n) ≡ nth_domain n (under ts ds (plain c))
domain_under ts [] c n = refl
domain_under ts (d ∷ ds) c zero = refl
domain_under ts (d ∷ ds) c (suc n) = domain_under ts ds c n

pub domain_is : (s : State) (m p n : ℕ) (b : Boundary) → IsMet s m p → statement_at s p ≡ Some (boundary_in s.trees b) → option_map (tree s.trees) (slice_get b.domains n) ≡ domain_at n (nth (declared_by s.items).metavariables m)
domain_is s m p n b M h =
    domain_under s.trees b.domains (goal_in s.trees b.goal) n
    ∙ ap (nth_domain n) (sym (stated_is s p M.conclusion (boundary_in s.trees b) M.is h))
    ∙ ap (domain_at n) (sym M.at)

-- Boundaries.

bounded_at : (s : State) (m p : ℕ) (b : Boundary) → IsMet s m p → statement_at s p ≡ Some (boundary_in s.trees b) → boundary_in s.trees b ≡ boundary_of_met (nth (declared_by s.items).metavariables m)
bounded_at s m p b M h = sym (stated_is s p M.conclusion (boundary_in s.trees b) M.is h) ∙ ap boundary_of_met (sym M.at)

-- a metavariable's boundary at the instance that was read, over a table that went on
pub instance_boundary : (s u : State) (r m p e : ℕ) (ps : List (ℕ × Arg)) (b c : Boundary) → IsMet s m p → statement_at s p ≡ Some (boundary_in s.trees b) → BoundaryBelow (length s.trees) b → PairsBelow (length s.trees) ps
    → instance_in s.trees ps ≡ instance_at (rule_at (declared_by s.items).rules r) (tree s.trees e) → c ≡ b → Extends s.trees u.trees
    → boundary_at u.trees ps (boundary_in u.trees c) ≡ act_statement free (instance_at (rule_at (declared_by s.items).rules r) (tree s.trees e)) (boundary_of_met (nth (declared_by s.items).metavariables m))
instance_boundary s u r m p e ps b c M h w v i q x =
    ap₂ (act_statement free) (instance_extends s.trees u.trees ps x v ∙ i)
    (ap (boundary_in u.trees) q ∙ boundary_extends s.trees u.trees b x w ∙ bounded_at s m p b M h)

fill_under : (ts : List Expression) (ds : List ℕ) (c : Claim) (h : Expression) → fill (under ts ds (plain c)) h ≡ under ts ds (plain (fill_goal c h))
fill_under ts [] c h = refl
fill_under ts (d ∷ ds) c h = ap (abstracted (tree ts d)) (fill_under ts ds c h)

pub thesis_filled : (ts : List Expression) (b : Boundary) (f : Form) (e : ℕ) → claim_in ts f ≡ fill_goal (goal_in ts b.goal) (tree ts e) → thesis_in ts (record { domains = b.domains; form = f }) ≡ fill (boundary_in ts b) (tree ts e)
thesis_filled ts b f e h = ap (λ c. under ts b.domains (plain c)) h ∙ sym (fill_under ts b.domains (goal_in ts b.goal) (tree ts e))
