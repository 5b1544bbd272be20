-- Both sides of equations that start at arguments.
use Rattle.std.proofs.Common.{◌≡◌, ℕ, Bool, true, false, ◌&&◌, List, sym, ap, ap₂, ◌∙◌, subst}
use Rattle.std.proofs.Math.Bool.{and-false, and-true}
use Rattle.ft_theory.specs.Expressions.{Arguments}
use Rattle.ft_theory.specs.Statements.{Statement}
use Rattle.ft_check.specs.Arguing.{IsPut}
use Rattle.ft_check.specs.declared.instances.Put.{Put}

pub second_none : (a b c d : Bool) → a ≡ c → a ≡ true → b ≡ d → b ≡ false → false ≡ (c && d)
second_none a b c d e t f n = sym (ap (λ d. c && d) (sym f ∙ n) ∙ and-false c)

pub both_there : (a b c d : Bool) → a ≡ c → a ≡ true → b ≡ d → b ≡ true → true ≡ (c && d)
both_there a b c d e t f n = sym (ap₂ ◌&&◌ (sym e ∙ t) (sym f ∙ n))

pub right_put : (x : Put) (ps : List (ℕ × Statement)) (a b : Arguments) → IsPut x ps a → a ≡ b → IsPut x ps b
right_put x ps a b h e = subst (IsPut x ps) e h

pub second_so : (a b d : Bool) → a ≡ true → d ≡ b → d ≡ (a && b)
second_so a b d e h = h ∙ ap (λ a. a && b) (sym e)

pub first_so : (a c d : Bool) → c ≡ true → d ≡ a → d ≡ (a && c)
first_so a c d e h = h ∙ sym (ap (λ c. a && c) e ∙ and-true a)

pub last_not : (a c : Bool) → false ≡ c → false ≡ (a && c)
last_not a c e = sym (ap (λ c. a && c) (sym e) ∙ and-false a)
