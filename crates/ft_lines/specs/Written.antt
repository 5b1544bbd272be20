-- The step that is written with a word and parts.
use Rattle.std.specs.Prelude.{ℕ, ◌≡◌, ◌≢◌, Bool, true, false, if◌then◌else◌, List, [], ◌∷◌, Result, Ok, Err}
use Rattle.ft_items.specs.Item.{by_var, by_generic, by_meta, by_metacong, by_abs, by_subst, by_substeq, by_refl, by_sym, by_trans, by_conv, by_conveq, by_left, by_right, by_typeof, by_domain, by_boundary, by_widen, by_btype, by_bterm, by_beqty, by_beqtm, by_rule, by_rulewith, by_inst, by_cong, by_convprem, by_convback, by_arg, by_natural, Stated}
use Rattle.ft_lines.specs.declared.fault.Fault.{Fault}
use Rattle.ft_lines.specs.declared.fault.Fault.TheVariants.{Form, Memory}
use Rattle.ft_lines.specs.declared.steps.Part.{Part}
use Rattle.ft_lines.specs.declared.steps.Part.TheVariants.{Number, Slash}
use Rattle.ft_lines.specs.declared.words.Word.{Word}
use Rattle.ft_lines.specs.declared.words.Word.TheVariants as word

-- what is told, or that nothing is
abbrev pub Told : Type 0 → Type 0
Told A = Result A Fault

-- what a function ensures that tells something, where what it answers stands for a value
abbrev pub Tells : {A B : Type 0} → (A → B) → Told B → Result A Fault → Type 0
Tells value told (Ok a) = told ≡ Ok (value a)
Tells value told (Err e) = e ≢ Memory → told ≡ Err e

-- the numbers that parts begin with
abbrev pub first_numbers : List Part → List ℕ
first_numbers [] = []
first_numbers (Number n ∷ ps) = n ∷ first_numbers ps
first_numbers (Slash ∷ ps) = []

-- what stands behind these
abbrev pub behind_numbers : List Part → List Part
behind_numbers [] = []
behind_numbers (Number n ∷ ps) = behind_numbers ps
behind_numbers (Slash ∷ ps) = Slash ∷ ps

-- the numbers, where nothing stands behind them
abbrev pub with_nothing : List Part → List ℕ → Told (List ℕ)
with_nothing [] ns = Ok ns
with_nothing (p ∷ ps) ns = Err Form

abbrev pub numbers_in : List Part → Told (List ℕ)
numbers_in ps = with_nothing (behind_numbers ps) (first_numbers ps)

-- what is made of what is told
abbrev pub made : {A B : Type 0} → (A → B) → Told A → Told B
made step (Ok a) = Ok (step a)
made step (Err e) = Err e

abbrev pub with_list : (List ℕ → Stated) → List Part → Told Stated
with_list step ps = made step (numbers_in ps)

-- the steps whose words stand with no number, with one, with two and with three
abbrev pub with_none : Word → Told Stated
with_none word.Btype = Ok by_btype
with_none w = Err Form

abbrev pub with_one : Word → ℕ → Told Stated
with_one word.Var v = Ok (by_var v)
with_one word.Generic m = Ok (by_generic m)
with_one word.Refl p = Ok (by_refl p)
with_one word.Sym p = Ok (by_sym p)
with_one word.Left p = Ok (by_left p)
with_one word.Right p = Ok (by_right p)
with_one word.Typeof p = Ok (by_typeof p)
with_one word.Domain p = Ok (by_domain p)
with_one word.Boundary p = Ok (by_boundary p)
with_one word.Bterm p = Ok (by_bterm p)
with_one word.Natural p = Ok (by_natural p)
with_one w p = Err Form

abbrev pub with_two : Word → ℕ → ℕ → Told Stated
with_two word.Abs v p = Ok (by_abs v p)
with_two word.Subst p t = Ok (by_subst p t)
with_two word.Substeq p e = Ok (by_substeq p e)
with_two word.Trans p q = Ok (by_trans p q)
with_two word.Conv p e = Ok (by_conv p e)
with_two word.Conveq p e = Ok (by_conveq p e)
with_two word.Widen p q = Ok (by_widen p q)
with_two word.Beqty p q = Ok (by_beqty p q)
with_two word.Arg i p = Ok (by_arg i p)
with_two w p q = Err Form

abbrev pub with_three : Word → ℕ → ℕ → ℕ → Told Stated
with_three word.Beqtm p s t = Ok (by_beqtm p s t)
with_three w p q r = Err Form

-- up to three numbers
abbrev pub with_numbers : Word → List Part → Told Stated
with_numbers w [] = with_none w
with_numbers w (Number p ∷ []) = with_one w p
with_numbers w (Number p ∷ Number q ∷ []) = with_two w p q
with_numbers w (Number p ∷ Number q ∷ Number r ∷ []) = with_three w p q r
with_numbers w ps = Err Form

-- two numbers and a list
abbrev pub with_boundary : ℕ → List Part → Told Stated
with_boundary r (Number b ∷ ps) = with_list (by_rulewith r b) ps
with_boundary r ps = Err Form

-- a number and a list
abbrev pub listed : Word → ℕ → List Part → Told Stated
listed word.Meta m ps = with_list (by_meta m) ps
listed word.Metacong m ps = with_list (by_metacong m) ps
listed word.Rule r ps = with_list (by_rule r) ps
listed word.Inst r ps = with_list (by_inst r) ps
listed word.Rulewith r ps = with_boundary r ps
listed w r ps = Err Form

-- two lists with a slash between them
abbrev pub with_second : ℕ → List ℕ → List Part → Told Stated
with_second r ns (Slash ∷ ps) = with_list (by_cong r ns) ps
with_second r ns ps = Err Form

-- two lists and a number, with a slash between each two
abbrev pub moved_by : Word → ℕ → List ℕ → List ℕ → ℕ → Told Stated
moved_by word.Convprem r ns es q = Ok (by_convprem r ns es q)
moved_by word.Convback r ns es q = Ok (by_convback r ns es q)
moved_by w r ns es q = Err Form

abbrev pub with_third : Word → ℕ → List ℕ → List ℕ → List Part → Told Stated
with_third w r ns es (Slash ∷ Number q ∷ []) = moved_by w r ns es q
with_third w r ns es ps = Err Form

abbrev pub moved_argument : Word → ℕ → List ℕ → List Part → Told Stated
moved_argument w r ns (Slash ∷ ps) = with_third w r ns (first_numbers ps) (behind_numbers ps)
moved_argument w r ns ps = Err Form

-- a number and lists with slashes between them
abbrev pub slashed : Word → ℕ → List Part → Told Stated
slashed word.Cong r ps = with_second r (first_numbers ps) (behind_numbers ps)
slashed w r ps = moved_argument w r (first_numbers ps) (behind_numbers ps)

-- a number, and what is told by what stands after it
abbrev pub after_number : (ℕ → List Part → Told Stated) → List Part → Told Stated
after_number step (Number r ∷ ps) = step r ps
after_number step ps = Err Form

-- whether slashes stand with the word
abbrev pub takes_slashes : Word → Bool
takes_slashes word.Cong = true
takes_slashes word.Convprem = true
takes_slashes word.Convback = true
takes_slashes w = false

-- whether a list stands with the word, and no slash
abbrev pub takes_list : Word → Bool
takes_list word.Meta = true
takes_list word.Metacong = true
takes_list word.Rule = true
takes_list word.Rulewith = true
takes_list word.Inst = true
takes_list w = false

-- the step that is written with the word and the parts
abbrev pub step_of : Word → List Part → Told Stated
step_of w ps =
    if takes_slashes w then after_number (slashed w) ps else
    if takes_list w then after_number (listed w) ps else
    with_numbers w ps
