-- Programs that ask whether types and terms are equal, and how they are run within a budget of units.
-- Normalising need not end. So what it does is told as a program, a tree of questions and of what follows each answer, and a
-- program is run by recursion on the units left, since each question spends one. That this bound never shows is proved:
-- a question is answered by its program, run with the answers to all questions (`proofs/Fuel.antt`).
use Rattle.std.specs.Prelude.{ℕ, zero, suc, Bool, Result, Ok, Err}
use Rattle.ft_theory.specs.Expressions.{Expression}

-- What is asked: whether two types are equal; whether two terms are equal at a type; whether two normal forms are the same up
-- to equal arguments.
pub data Question : Type 0 where
  types : Expression → Expression → Question
  terms : Expression → Expression → Expression → Question
  normals : Expression → Expression → Question

-- A program gives an answer; or it stops, since what it formed is not small; or it opens a variable, asks a question, or asks
-- for a normal form, and goes on with what it is told.
pub data Program (A : Type 0) : Type 0 where
  give : A → Program A
  stop : Program A
  opens : (ℕ → Program A) → Program A
  asks : Question → (Bool → Program A) → Program A
  normalises : Expression → (Expression → Program A) → Program A

infixl 10 ◌>>=◌
-- a program, and what follows its answer
abbrev pub ◌>>=◌ : {A B : Type 0} → Program A → (A → Program B) → Program B
◌>>=◌ (give a) next = next a
◌>>=◌ stop next = stop
◌>>=◌ (opens k) next = opens (λ v. ◌>>=◌ (k v) next)
◌>>=◌ (asks q k) next = asks q (λ b. ◌>>=◌ (k b) next)
◌>>=◌ (normalises e k) next = normalises e (λ f. ◌>>=◌ (k f) next)

infixl 10 ◌>>◌
-- the same without the answer
abbrev pub ◌>>◌ : {A B : Type 0} → Program A → Program B → Program B
◌>>◌ p q = ◌>>=◌ p (λ a. q)

-- units used, and units left
pub record Units : Type 0 where
  pub used : ℕ
  pub left : ℕ

-- Why there is no answer: a unit is needed and none is left, or what was formed is not small.
pub data Stop : Type 0 where
  Spent : Stop
  NotSmall : Stop

-- an answer or a stop, with the units after it
abbrev pub Answer : Type 0 → Type 0
Answer A = Result A Stop × Units

-- what follows an answer
abbrev pub after : {A B : Type 0} → Answer A → (A → Units → Answer B) → Answer B
after (Ok a, u) next = next a u
after (Err e, u) next = (Err e, u)

-- what follows a unit that is spent, of so many used and left
abbrev pub spend_from : {A : Type 0} → ℕ → ℕ → (Units → Answer A) → Answer A
spend_from used zero next = (Err Spent, record { used = used; left = zero })
spend_from used (suc left) next = next (record { used = suc used; left = left })

-- one unit is spent, where one is left
abbrev pub spend : {A : Type 0} → Units → (Units → Answer A) → Answer A
spend u next = spend_from u.used u.left next

-- who answers questions
pub record Solver : Type 0 where
  pub ask : Question → Units → Answer Bool
  pub normal : Expression → Units → Answer Expression

-- A program run with a solver. A variable that is opened costs a unit, and its number is that of the units used before.
abbrev pub run : Solver → {A : Type 0} → Program A → Units → Answer A
run S (give a) u = (Ok a, u)
run S stop u = (Err NotSmall, u)
run S (opens k) u = spend u (λ w. run S (k u.used) w)
run S (asks q k) u = after (S.ask q u) (λ b w. run S (k b) w)
run S (normalises e k) u = after (S.normal e u) (λ f w. run S (k f) w)

-- what is done for each question and for a normal form, once a unit is spent
pub record Bodies : Type 0 where
  pub asked : Question → Program Bool
  pub normal : Expression → Program Expression

-- the answers of these bodies, where calls nest no deeper than n; each call spends a unit first
abbrev pub solver : Bodies → ℕ → Solver
solver B zero = record { ask = λ q u. (Err Spent, u); normal = λ e u. (Err Spent, u) }
solver B (suc n) = record {
  ask = λ q u. spend u (run (solver B n) (B.asked q));
  normal = λ e u. spend u (run (solver B n) (B.normal e));
}

-- the answers of these bodies; no call nests deeper than units are left
abbrev pub solve : Bodies → Solver
solve B = record {
  ask = λ q u. (solver B u.left).ask q u;
  normal = λ e u. (solver B u.left).normal e u;
}
