-- The reader of a line is chosen by its first letter.
use Rattle.std.proofs.Common.{◌≡◌, ◌∙◌, sym, refl, subst, ℕ, List, Result, Bool, true, false}
use Rattle.ft_theory.specs.Expressions.{Expression}
use Rattle.ft_items.specs.Item.{Item}
use Rattle.ft_stated.specs.declared.stated.Stated.{Stated}
use Rattle.ft_lines.specs.declared.fault.Fault.{Fault}
use Rattle.ft_lines.specs.Reading.{Outcome, sees}
use Rattle.ft_lines.specs.Lines.{variable, metavariable, rule, mark, declared, item, ReadsItem}

pub reads_same : (o p : Outcome Item) (ts : List Expression) (result : Result Stated Fault) (new : List ℕ) → o ≡ p → ReadsItem p ts result new → ReadsItem o ts result new
reads_same o p ts result new e h = subst (λ q. ReadsItem q ts result new) (sym e) h

pub chosen_variable : (a : Bool) (cs : List ℕ) → a ≡ sees 86 cs → a ≡ true → declared cs ≡ variable cs
unfolding declared
chosen_variable a cs t y = rw (sym t ∙ y) refl

pub chosen_metavariable : (a b : Bool) (cs : List ℕ) → a ≡ sees 86 cs → a ≡ false → b ≡ sees 77 cs → b ≡ true → declared cs ≡ metavariable cs
unfolding declared
chosen_metavariable a b cs t n u y = rw (sym t ∙ n, sym u ∙ y) refl

pub chosen_rule : (a b c : Bool) (cs : List ℕ) → a ≡ sees 86 cs → a ≡ false → b ≡ sees 77 cs → b ≡ false → c ≡ sees 82 cs → c ≡ true → declared cs ≡ rule cs
unfolding declared
chosen_rule a b c cs t n u m v y = rw (sym t ∙ n, sym u ∙ m, sym v ∙ y) refl

pub chosen_mark : (a b c : Bool) (cs : List ℕ) → a ≡ sees 86 cs → a ≡ false → b ≡ sees 77 cs → b ≡ false → c ≡ sees 82 cs → c ≡ false → declared cs ≡ mark cs
unfolding declared
chosen_mark a b c cs t n u m v l = rw (sym t ∙ n, sym u ∙ m, sym v ∙ l) refl

pub chosen_declared : (a b : Bool) (cs : List ℕ) → a ≡ sees 74 cs → a ≡ false → b ≡ sees 66 cs → b ≡ false → item cs ≡ declared cs
unfolding item
chosen_declared a b cs t n u m = rw (sym t ∙ n, sym u ∙ m) refl
