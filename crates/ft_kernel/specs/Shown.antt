-- How an item of a list is shown.
use Rattle.std.specs.Prelude.{ℕ, ◌≡◌, Some, true, false, List, length, take}
use Rattle.ft_theory.specs.Statements.{Statement}
use Rattle.ft_items.specs.Sets.{Atom}
use Rattle.ft_items.specs.Item.{Name, variable, metavariable, rule, entry, shown}
use Rattle.ft_items.specs.Store.{nth, entries_in, metavariables_in, rules_in}
use Rattle.ft_items.specs.Equal.{is_thesis}
use Rattle.ft_judge.specs.declared.judgement.Thesis.{Thesis as ThesisValue}
use Rattle.ft_judge.specs.declared.judgement.Boundary.{Boundary as BoundaryValue}
use Rattle.ft_kernel.specs.State.{State}
use Rattle.ft_kernel.specs.Steps.{step_of}
use Rattle.ft_kernel.specs.declared.item.VarItem.{VarItem}
use Rattle.ft_kernel.specs.declared.item.MetItem.{MetItem}
use Rattle.ft_kernel.specs.declared.item.RuleItem.{RuleItem}
use Rattle.ft_kernel.specs.declared.item.Item.{Item}
use Rattle.ft_kernel.specs.declared.item.Item.TheVariants as item
use Rattle.ft_kernel.specs.declared.line.Content.TheVariants as content
use Rattle.ft_kernel.specs.declared.line.Line.{Line}

-- The item at place i is shown so: a variable by its own number; a metavariable, a rule or an entry by how many of its kind
-- stand before it, an entry with its step; a mark by the thesis that it shows.
abbrev pub IsShownAs : State → ℕ → Item → Type 0
IsShownAs s i (item.Var v) = (n : Name) × (p : ℕ) × (nth s.items i ≡ Some (variable v n p))
IsShownAs s i (item.Met m) = (n : Name) × (p : ℕ) × (nth s.items i ≡ Some (metavariable n p)) × (m ≡ length (metavariables_in (take i s.items)))
IsShownAs s i (item.Rule r) = (n : Name) × (ms : List ℕ) × (p : ℕ) × (nth s.items i ≡ Some (rule n ms p)) × (r ≡ length (rules_in (take i s.items)))
IsShownAs s i (item.Thesis j t) = (x : Statement) × (S : List Atom) × (nth s.items i ≡ Some (entry (record { statement = x; set = S; step = step_of t.now })))
    × (is_thesis x ≡ true) × (j ≡ length (entries_in (take i s.items)))
IsShownAs s i (item.Boundary b t) = (x : Statement) × (S : List Atom) × (nth s.items i ≡ Some (entry (record { statement = x; set = S; step = step_of t.now })))
    × (is_thesis x ≡ false) × (b ≡ length (entries_in (take i s.items)))
IsShownAs s i (item.Shown j) = nth s.items i ≡ Some (shown j)

-- a line is shown so
abbrev pub ShowsLine : Line → Item → Type 0
ShowsLine l (item.Var v) = (x : VarItem) × (l.content ≡ content.Variable x) × (v ≡ x.number)
ShowsLine l (item.Met m) = (x : MetItem) × (l.content ≡ content.Metavariable x) × (m ≡ l.number)
ShowsLine l (item.Rule r) = (x : RuleItem) × (l.content ≡ content.Rule x) × (r ≡ l.number)
ShowsLine l (item.Thesis j t) = (x : ThesisValue) × (S : List Atom) × (l.content ≡ content.Thesis x S t.now) × (j ≡ l.number)
ShowsLine l (item.Boundary b t) = (x : BoundaryValue) × (S : List Atom) × (l.content ≡ content.Boundary x S t.now) × (b ≡ l.number)
ShowsLine l (item.Shown j) = l.content ≡ content.Shown j
