-- A step is told exactly where it is written with the word and the parts.
use Rattle.std.proofs.Common.{◌≡◌, ◌≢◌, ◌∙◌, sym, ap, refl, subst, ℕ, List, [], ◌∷◌, ◌++◌, map, Result, Ok, Err, Option, Some, None}
use Rattle.std.specs.Prelude.{codes, IfOk, IsErrOf}
use Rattle.ft_items.specs.Item.{Stated, by_var, by_generic, by_meta, by_metacong, by_abs, by_subst, by_substeq, by_refl, by_sym, by_trans, by_conv, by_conveq, by_left, by_right, by_typeof, by_domain, by_boundary, by_widen, by_btype, by_bterm, by_beqty, by_beqtm, by_rule, by_rulewith, by_inst, by_cong, by_convprem, by_convback, by_arg, by_natural, by_metainst}
use Rattle.ft_items.specs.Texts.{Part as AnyPart, number, slash, written}
use Rattle.ft_stated.specs.Steps.{stated_step}
use Rattle.ft_stated.specs.declared.step.StatedStep.{StatedStep}
use Rattle.ft_lines.specs.declared.fault.Fault.{Fault}
use Rattle.ft_lines.specs.declared.fault.Fault.TheVariants.{Form, Memory}
use Rattle.ft_lines.specs.declared.words.Word.{Word}
use Rattle.ft_lines.specs.declared.words.Word.TheVariants as word
use Rattle.ft_lines.specs.declared.steps.Part.{Part}
use Rattle.ft_lines.specs.declared.steps.Part.TheVariants.{Number, Slash}
use Rattle.ft_lines.specs.Words.{spelling_of, word_of}
use Rattle.ft_lines.specs.Steps.{part_of, IsWritten}
use Rattle.ft_lines.specs.Written.{Told, Tells, first_numbers, behind_numbers, with_nothing, made, with_list, with_none, with_one, with_two, with_three, with_numbers, listed, with_second, moved_by, with_third, moved_argument, slashed, after_number, step_of}
use Rattle.ft_common.proofs.Results.{ok_ok, err_ok}
use Rattle.ft_lines.proofs.StepTexts.{word_of_spelling, value_of_part}

none_told : {P : Type 0} (s : Stated) → ◌≡◌ {A = Told Stated} (Err Form) (Ok s) → P
none_told s h = absurd (err_ok Form s h)

is_told : (s : Stated) (w : Word) (ps : List Part) (t : Stated) → ◌≡◌ {A = Told Stated} (Ok s) (Ok t) → IsWritten s w ps → IsWritten t w ps
is_told s w ps t h is = subst (λ x. IsWritten x w ps) (ok_ok s t h) is

-- ---- parts as numbers
parts_split : (ps : List Part) → ps ≡ map Number (first_numbers ps) ++ behind_numbers ps
parts_split [] = refl
parts_split (Number n ∷ ps) = ap (λ qs. Number n ∷ qs) (parts_split ps)
parts_split (Slash ∷ ps) = refl

numbers_then : (ns : List ℕ) (ps : List Part) → map part_of (map Number ns ++ ps) ≡ map number ns ++ map part_of ps
numbers_then [] ps = refl
numbers_then (n ∷ ns) ps = ap (λ qs. number n ∷ qs) (numbers_then ns ps)

two_lists : (ns es : List ℕ) (q : ℕ) → map part_of (map Number ns ++ (Slash ∷ (map Number es ++ (Slash ∷ Number q ∷ [])))) ≡ map number ns ++ (slash ∷ (map number es ++ (slash ∷ number q ∷ [])))
two_lists ns es q = numbers_then ns (Slash ∷ (map Number es ++ (Slash ∷ Number q ∷ []))) ∙ ap (λ qs. map number ns ++ (slash ∷ qs)) (numbers_then es (Slash ∷ Number q ∷ []))

append_none : (ps : List Part) → ps ++ [] ≡ ps
append_none [] = refl
append_none (p ∷ ps) = ap (λ qs. p ∷ qs) (append_none ps)

all_parts : (ns : List ℕ) → map part_of (map Number ns) ≡ map number ns
all_parts [] = refl
all_parts (n ∷ ns) = ap (λ qs. number n ∷ qs) (all_parts ns)

numbers_alone : (ps : List Part) → behind_numbers ps ≡ [] → map part_of ps ≡ map number (first_numbers ps)
numbers_alone ps h = ap (map part_of) (parts_split ps ∙ ap (λ qs. map Number (first_numbers ps) ++ qs) h ∙ append_none (map Number (first_numbers ps))) ∙ all_parts (first_numbers ps)

list_is : (step : List ℕ → Stated) (ps : List Part) (s : Stated) (w : Word) (all : List Part) → with_list step ps ≡ Ok s
    → ((ns : List ℕ) → map part_of ps ≡ map number ns → IsWritten (step ns) w all) → IsWritten s w all
list_is step ps s w all h is = go (behind_numbers ps) refl h
  where
    go : (qs : List Part) → behind_numbers ps ≡ qs → made step (with_nothing qs (first_numbers ps)) ≡ Ok s → IsWritten s w all
    go [] e k = is_told (step (first_numbers ps)) w all s k (is (first_numbers ps) (numbers_alone ps e))
    go (q ∷ qs) e k = none_told s k

none_is : (w : Word) (s : Stated) → with_none w ≡ Ok s → IsWritten s w ([])
none_is word.Var s h = none_told s h
none_is word.Generic s h = none_told s h
none_is word.Meta s h = none_told s h
none_is word.Metacong s h = none_told s h
none_is word.Abs s h = none_told s h
none_is word.Subst s h = none_told s h
none_is word.Substeq s h = none_told s h
none_is word.Refl s h = none_told s h
none_is word.Sym s h = none_told s h
none_is word.Trans s h = none_told s h
none_is word.Conv s h = none_told s h
none_is word.Conveq s h = none_told s h
none_is word.Left s h = none_told s h
none_is word.Right s h = none_told s h
none_is word.Typeof s h = none_told s h
none_is word.Domain s h = none_told s h
none_is word.Boundary s h = none_told s h
none_is word.Widen s h = none_told s h
none_is word.Btype s h = is_told by_btype word.Btype ([]) s h (refl, refl)
none_is word.Bterm s h = none_told s h
none_is word.Beqty s h = none_told s h
none_is word.Beqtm s h = none_told s h
none_is word.Rule s h = none_told s h
none_is word.Rulewith s h = none_told s h
none_is word.Inst s h = none_told s h
none_is word.Cong s h = none_told s h
none_is word.Convprem s h = none_told s h
none_is word.Convback s h = none_told s h
none_is word.Arg s h = none_told s h
none_is word.Natural s h = none_told s h

one_is : (w : Word) (p : ℕ) (s : Stated) → with_one w p ≡ Ok s → IsWritten s w (Number p ∷ [])
one_is word.Var p s h = is_told (by_var p) word.Var (Number p ∷ []) s h (refl, refl)
one_is word.Generic p s h = is_told (by_generic p) word.Generic (Number p ∷ []) s h (refl, refl)
one_is word.Meta p s h = none_told s h
one_is word.Metacong p s h = none_told s h
one_is word.Abs p s h = none_told s h
one_is word.Subst p s h = none_told s h
one_is word.Substeq p s h = none_told s h
one_is word.Refl p s h = is_told (by_refl p) word.Refl (Number p ∷ []) s h (refl, refl)
one_is word.Sym p s h = is_told (by_sym p) word.Sym (Number p ∷ []) s h (refl, refl)
one_is word.Trans p s h = none_told s h
one_is word.Conv p s h = none_told s h
one_is word.Conveq p s h = none_told s h
one_is word.Left p s h = is_told (by_left p) word.Left (Number p ∷ []) s h (refl, refl)
one_is word.Right p s h = is_told (by_right p) word.Right (Number p ∷ []) s h (refl, refl)
one_is word.Typeof p s h = is_told (by_typeof p) word.Typeof (Number p ∷ []) s h (refl, refl)
one_is word.Domain p s h = is_told (by_domain p) word.Domain (Number p ∷ []) s h (refl, refl)
one_is word.Boundary p s h = is_told (by_boundary p) word.Boundary (Number p ∷ []) s h (refl, refl)
one_is word.Widen p s h = none_told s h
one_is word.Btype p s h = none_told s h
one_is word.Bterm p s h = is_told (by_bterm p) word.Bterm (Number p ∷ []) s h (refl, refl)
one_is word.Beqty p s h = none_told s h
one_is word.Beqtm p s h = none_told s h
one_is word.Rule p s h = none_told s h
one_is word.Rulewith p s h = none_told s h
one_is word.Inst p s h = none_told s h
one_is word.Cong p s h = none_told s h
one_is word.Convprem p s h = none_told s h
one_is word.Convback p s h = none_told s h
one_is word.Arg p s h = none_told s h
one_is word.Natural p s h = is_told (by_natural p) word.Natural (Number p ∷ []) s h (refl, refl)

two_is : (w : Word) (p q : ℕ) (s : Stated) → with_two w p q ≡ Ok s → IsWritten s w (Number p ∷ Number q ∷ [])
two_is word.Var p q s h = none_told s h
two_is word.Generic p q s h = none_told s h
two_is word.Meta p q s h = none_told s h
two_is word.Metacong p q s h = none_told s h
two_is word.Abs p q s h = is_told (by_abs p q) word.Abs (Number p ∷ Number q ∷ []) s h (refl, refl)
two_is word.Subst p q s h = is_told (by_subst p q) word.Subst (Number p ∷ Number q ∷ []) s h (refl, refl)
two_is word.Substeq p q s h = is_told (by_substeq p q) word.Substeq (Number p ∷ Number q ∷ []) s h (refl, refl)
two_is word.Refl p q s h = none_told s h
two_is word.Sym p q s h = none_told s h
two_is word.Trans p q s h = is_told (by_trans p q) word.Trans (Number p ∷ Number q ∷ []) s h (refl, refl)
two_is word.Conv p q s h = is_told (by_conv p q) word.Conv (Number p ∷ Number q ∷ []) s h (refl, refl)
two_is word.Conveq p q s h = is_told (by_conveq p q) word.Conveq (Number p ∷ Number q ∷ []) s h (refl, refl)
two_is word.Left p q s h = none_told s h
two_is word.Right p q s h = none_told s h
two_is word.Typeof p q s h = none_told s h
two_is word.Domain p q s h = none_told s h
two_is word.Boundary p q s h = none_told s h
two_is word.Widen p q s h = is_told (by_widen p q) word.Widen (Number p ∷ Number q ∷ []) s h (refl, refl)
two_is word.Btype p q s h = none_told s h
two_is word.Bterm p q s h = none_told s h
two_is word.Beqty p q s h = is_told (by_beqty p q) word.Beqty (Number p ∷ Number q ∷ []) s h (refl, refl)
two_is word.Beqtm p q s h = none_told s h
two_is word.Rule p q s h = none_told s h
two_is word.Rulewith p q s h = none_told s h
two_is word.Inst p q s h = none_told s h
two_is word.Cong p q s h = none_told s h
two_is word.Convprem p q s h = none_told s h
two_is word.Convback p q s h = none_told s h
two_is word.Arg p q s h = is_told (by_arg p q) word.Arg (Number p ∷ Number q ∷ []) s h (refl, refl)
two_is word.Natural p q s h = none_told s h

three_is : (w : Word) (p q r : ℕ) (s : Stated) → with_three w p q r ≡ Ok s → IsWritten s w (Number p ∷ Number q ∷ Number r ∷ [])
three_is word.Var p q r s h = none_told s h
three_is word.Generic p q r s h = none_told s h
three_is word.Meta p q r s h = none_told s h
three_is word.Metacong p q r s h = none_told s h
three_is word.Abs p q r s h = none_told s h
three_is word.Subst p q r s h = none_told s h
three_is word.Substeq p q r s h = none_told s h
three_is word.Refl p q r s h = none_told s h
three_is word.Sym p q r s h = none_told s h
three_is word.Trans p q r s h = none_told s h
three_is word.Conv p q r s h = none_told s h
three_is word.Conveq p q r s h = none_told s h
three_is word.Left p q r s h = none_told s h
three_is word.Right p q r s h = none_told s h
three_is word.Typeof p q r s h = none_told s h
three_is word.Domain p q r s h = none_told s h
three_is word.Boundary p q r s h = none_told s h
three_is word.Widen p q r s h = none_told s h
three_is word.Btype p q r s h = none_told s h
three_is word.Bterm p q r s h = none_told s h
three_is word.Beqty p q r s h = none_told s h
three_is word.Beqtm p q r s h = is_told (by_beqtm p q r) word.Beqtm (Number p ∷ Number q ∷ Number r ∷ []) s h (refl, refl)
three_is word.Rule p q r s h = none_told s h
three_is word.Rulewith p q r s h = none_told s h
three_is word.Inst p q r s h = none_told s h
three_is word.Cong p q r s h = none_told s h
three_is word.Convprem p q r s h = none_told s h
three_is word.Convback p q r s h = none_told s h
three_is word.Arg p q r s h = none_told s h
three_is word.Natural p q r s h = none_told s h

numbers_are : (w : Word) (ps : List Part) (s : Stated) → with_numbers w ps ≡ Ok s → IsWritten s w ps
numbers_are w [] s h = none_is w s h
numbers_are w (Number p ∷ []) s h = one_is w p s h
numbers_are w (Number p ∷ Number q ∷ []) s h = two_is w p q s h
numbers_are w (Number p ∷ Number q ∷ Number r ∷ []) s h = three_is w p q r s h
numbers_are w (Number p ∷ Number q ∷ Number r ∷ Number t ∷ ps) s h = none_told s h
numbers_are w (Number p ∷ Number q ∷ Number r ∷ Slash ∷ ps) s h = none_told s h
numbers_are w (Number p ∷ Number q ∷ Slash ∷ ps) s h = none_told s h
numbers_are w (Number p ∷ Slash ∷ ps) s h = none_told s h
numbers_are w (Slash ∷ ps) s h = none_told s h

listed_is : (w : Word) (r : ℕ) (ps : List Part) (s : Stated) → listed w r ps ≡ Ok s → IsWritten s w (Number r ∷ ps)
listed_is word.Var r ps s h = none_told s h
listed_is word.Generic r ps s h = none_told s h
listed_is word.Meta r ps s h = list_is (by_meta r) ps s word.Meta (Number r ∷ ps) h (λ ns e. (refl, ap (λ qs. number r ∷ qs) e))
listed_is word.Metacong r ps s h = list_is (by_metacong r) ps s word.Metacong (Number r ∷ ps) h (λ ns e. (refl, ap (λ qs. number r ∷ qs) e))
listed_is word.Abs r ps s h = none_told s h
listed_is word.Subst r ps s h = none_told s h
listed_is word.Substeq r ps s h = none_told s h
listed_is word.Refl r ps s h = none_told s h
listed_is word.Sym r ps s h = none_told s h
listed_is word.Trans r ps s h = none_told s h
listed_is word.Conv r ps s h = none_told s h
listed_is word.Conveq r ps s h = none_told s h
listed_is word.Left r ps s h = none_told s h
listed_is word.Right r ps s h = none_told s h
listed_is word.Typeof r ps s h = none_told s h
listed_is word.Domain r ps s h = none_told s h
listed_is word.Boundary r ps s h = none_told s h
listed_is word.Widen r ps s h = none_told s h
listed_is word.Btype r ps s h = none_told s h
listed_is word.Bterm r ps s h = none_told s h
listed_is word.Beqty r ps s h = none_told s h
listed_is word.Beqtm r ps s h = none_told s h
listed_is word.Rule r ps s h = list_is (by_rule r) ps s word.Rule (Number r ∷ ps) h (λ ns e. (refl, ap (λ qs. number r ∷ qs) e))
listed_is word.Rulewith r [] s h = none_told s h
listed_is word.Rulewith r (Number b ∷ ps) s h = list_is (by_rulewith r b) ps s word.Rulewith (Number r ∷ Number b ∷ ps) h (λ ns e. (refl, ap (λ qs. number r ∷ number b ∷ qs) e))
listed_is word.Rulewith r (Slash ∷ ps) s h = none_told s h
listed_is word.Inst r ps s h = list_is (by_inst r) ps s word.Inst (Number r ∷ ps) h (λ ns e. (refl, ap (λ qs. number r ∷ qs) e))
listed_is word.Cong r ps s h = none_told s h
listed_is word.Convprem r ps s h = none_told s h
listed_is word.Convback r ps s h = none_told s h
listed_is word.Arg r ps s h = none_told s h
listed_is word.Natural r ps s h = none_told s h

moved_is : (w : Word) (r : ℕ) (ns es : List ℕ) (q : ℕ) (s : Stated) → moved_by w r ns es q ≡ Ok s → IsWritten s w (Number r ∷ (map Number ns ++ (Slash ∷ (map Number es ++ (Slash ∷ Number q ∷ [])))))
moved_is word.Var r ns es q s h = none_told s h
moved_is word.Generic r ns es q s h = none_told s h
moved_is word.Meta r ns es q s h = none_told s h
moved_is word.Metacong r ns es q s h = none_told s h
moved_is word.Abs r ns es q s h = none_told s h
moved_is word.Subst r ns es q s h = none_told s h
moved_is word.Substeq r ns es q s h = none_told s h
moved_is word.Refl r ns es q s h = none_told s h
moved_is word.Sym r ns es q s h = none_told s h
moved_is word.Trans r ns es q s h = none_told s h
moved_is word.Conv r ns es q s h = none_told s h
moved_is word.Conveq r ns es q s h = none_told s h
moved_is word.Left r ns es q s h = none_told s h
moved_is word.Right r ns es q s h = none_told s h
moved_is word.Typeof r ns es q s h = none_told s h
moved_is word.Domain r ns es q s h = none_told s h
moved_is word.Boundary r ns es q s h = none_told s h
moved_is word.Widen r ns es q s h = none_told s h
moved_is word.Btype r ns es q s h = none_told s h
moved_is word.Bterm r ns es q s h = none_told s h
moved_is word.Beqty r ns es q s h = none_told s h
moved_is word.Beqtm r ns es q s h = none_told s h
moved_is word.Rule r ns es q s h = none_told s h
moved_is word.Rulewith r ns es q s h = none_told s h
moved_is word.Inst r ns es q s h = none_told s h
moved_is word.Cong r ns es q s h = none_told s h
moved_is word.Convprem r ns es q s h = is_told (by_convprem r ns es q) word.Convprem (Number r ∷ (map Number ns ++ (Slash ∷ (map Number es ++ (Slash ∷ Number q ∷ []))))) s h (refl, ap (λ qs. number r ∷ qs) (two_lists ns es q))
moved_is word.Convback r ns es q s h = is_told (by_convback r ns es q) word.Convback (Number r ∷ (map Number ns ++ (Slash ∷ (map Number es ++ (Slash ∷ Number q ∷ []))))) s h (refl, ap (λ qs. number r ∷ qs) (two_lists ns es q))
moved_is word.Arg r ns es q s h = none_told s h
moved_is word.Natural r ns es q s h = none_told s h

third_is : (w : Word) (r : ℕ) (ns es : List ℕ) (ps : List Part) (s : Stated) → with_third w r ns es ps ≡ Ok s → IsWritten s w (Number r ∷ (map Number ns ++ (Slash ∷ (map Number es ++ ps))))
third_is w r ns es [] s h = none_told s h
third_is w r ns es (Number n ∷ ps) s h = none_told s h
third_is w r ns es (Slash ∷ []) s h = none_told s h
third_is w r ns es (Slash ∷ Slash ∷ ps) s h = none_told s h
third_is w r ns es (Slash ∷ Number q ∷ []) s h = moved_is w r ns es q s h
third_is w r ns es (Slash ∷ Number q ∷ p ∷ ps) s h = none_told s h

both_is : (w : Word) (r : ℕ) (ns : List ℕ) (ps : List Part) (s : Stated) → moved_argument w r ns ps ≡ Ok s → IsWritten s w (Number r ∷ (map Number ns ++ ps))
both_is w r ns [] s h = none_told s h
both_is w r ns (Number n ∷ ps) s h = none_told s h
both_is w r ns (Slash ∷ ps) s h =
    subst (λ qs. IsWritten s w (Number r ∷ (map Number ns ++ (Slash ∷ qs)))) (sym (parts_split ps)) (third_is w r ns (first_numbers ps) (behind_numbers ps) s h)

second_is : (r : ℕ) (ns : List ℕ) (ps : List Part) (s : Stated) → with_second r ns ps ≡ Ok s → IsWritten s word.Cong (Number r ∷ (map Number ns ++ ps))
second_is r ns [] s h = none_told s h
second_is r ns (Number n ∷ ps) s h = none_told s h
second_is r ns (Slash ∷ ps) s h = list_is (by_cong r ns) ps s word.Cong (Number r ∷ (map Number ns ++ (Slash ∷ ps))) h
    (λ es e. (refl, ap (λ qs. number r ∷ qs) (numbers_then ns (Slash ∷ ps) ∙ ap (λ qs. map number ns ++ (slash ∷ qs)) e)))

slashed_is : (w : Word) (r : ℕ) (ps : List Part) (s : Stated) → slashed w r ps ≡ Ok s → IsWritten s w (Number r ∷ ps)
slashed_is word.Var r ps s h = subst (λ qs. IsWritten s word.Var (Number r ∷ qs)) (sym (parts_split ps)) (both_is word.Var r (first_numbers ps) (behind_numbers ps) s h)
slashed_is word.Generic r ps s h = subst (λ qs. IsWritten s word.Generic (Number r ∷ qs)) (sym (parts_split ps)) (both_is word.Generic r (first_numbers ps) (behind_numbers ps) s h)
slashed_is word.Meta r ps s h = subst (λ qs. IsWritten s word.Meta (Number r ∷ qs)) (sym (parts_split ps)) (both_is word.Meta r (first_numbers ps) (behind_numbers ps) s h)
slashed_is word.Metacong r ps s h = subst (λ qs. IsWritten s word.Metacong (Number r ∷ qs)) (sym (parts_split ps)) (both_is word.Metacong r (first_numbers ps) (behind_numbers ps) s h)
slashed_is word.Abs r ps s h = subst (λ qs. IsWritten s word.Abs (Number r ∷ qs)) (sym (parts_split ps)) (both_is word.Abs r (first_numbers ps) (behind_numbers ps) s h)
slashed_is word.Subst r ps s h = subst (λ qs. IsWritten s word.Subst (Number r ∷ qs)) (sym (parts_split ps)) (both_is word.Subst r (first_numbers ps) (behind_numbers ps) s h)
slashed_is word.Substeq r ps s h = subst (λ qs. IsWritten s word.Substeq (Number r ∷ qs)) (sym (parts_split ps)) (both_is word.Substeq r (first_numbers ps) (behind_numbers ps) s h)
slashed_is word.Refl r ps s h = subst (λ qs. IsWritten s word.Refl (Number r ∷ qs)) (sym (parts_split ps)) (both_is word.Refl r (first_numbers ps) (behind_numbers ps) s h)
slashed_is word.Sym r ps s h = subst (λ qs. IsWritten s word.Sym (Number r ∷ qs)) (sym (parts_split ps)) (both_is word.Sym r (first_numbers ps) (behind_numbers ps) s h)
slashed_is word.Trans r ps s h = subst (λ qs. IsWritten s word.Trans (Number r ∷ qs)) (sym (parts_split ps)) (both_is word.Trans r (first_numbers ps) (behind_numbers ps) s h)
slashed_is word.Conv r ps s h = subst (λ qs. IsWritten s word.Conv (Number r ∷ qs)) (sym (parts_split ps)) (both_is word.Conv r (first_numbers ps) (behind_numbers ps) s h)
slashed_is word.Conveq r ps s h = subst (λ qs. IsWritten s word.Conveq (Number r ∷ qs)) (sym (parts_split ps)) (both_is word.Conveq r (first_numbers ps) (behind_numbers ps) s h)
slashed_is word.Left r ps s h = subst (λ qs. IsWritten s word.Left (Number r ∷ qs)) (sym (parts_split ps)) (both_is word.Left r (first_numbers ps) (behind_numbers ps) s h)
slashed_is word.Right r ps s h = subst (λ qs. IsWritten s word.Right (Number r ∷ qs)) (sym (parts_split ps)) (both_is word.Right r (first_numbers ps) (behind_numbers ps) s h)
slashed_is word.Typeof r ps s h = subst (λ qs. IsWritten s word.Typeof (Number r ∷ qs)) (sym (parts_split ps)) (both_is word.Typeof r (first_numbers ps) (behind_numbers ps) s h)
slashed_is word.Domain r ps s h = subst (λ qs. IsWritten s word.Domain (Number r ∷ qs)) (sym (parts_split ps)) (both_is word.Domain r (first_numbers ps) (behind_numbers ps) s h)
slashed_is word.Boundary r ps s h = subst (λ qs. IsWritten s word.Boundary (Number r ∷ qs)) (sym (parts_split ps)) (both_is word.Boundary r (first_numbers ps) (behind_numbers ps) s h)
slashed_is word.Widen r ps s h = subst (λ qs. IsWritten s word.Widen (Number r ∷ qs)) (sym (parts_split ps)) (both_is word.Widen r (first_numbers ps) (behind_numbers ps) s h)
slashed_is word.Btype r ps s h = subst (λ qs. IsWritten s word.Btype (Number r ∷ qs)) (sym (parts_split ps)) (both_is word.Btype r (first_numbers ps) (behind_numbers ps) s h)
slashed_is word.Bterm r ps s h = subst (λ qs. IsWritten s word.Bterm (Number r ∷ qs)) (sym (parts_split ps)) (both_is word.Bterm r (first_numbers ps) (behind_numbers ps) s h)
slashed_is word.Beqty r ps s h = subst (λ qs. IsWritten s word.Beqty (Number r ∷ qs)) (sym (parts_split ps)) (both_is word.Beqty r (first_numbers ps) (behind_numbers ps) s h)
slashed_is word.Beqtm r ps s h = subst (λ qs. IsWritten s word.Beqtm (Number r ∷ qs)) (sym (parts_split ps)) (both_is word.Beqtm r (first_numbers ps) (behind_numbers ps) s h)
slashed_is word.Rule r ps s h = subst (λ qs. IsWritten s word.Rule (Number r ∷ qs)) (sym (parts_split ps)) (both_is word.Rule r (first_numbers ps) (behind_numbers ps) s h)
slashed_is word.Rulewith r ps s h = subst (λ qs. IsWritten s word.Rulewith (Number r ∷ qs)) (sym (parts_split ps)) (both_is word.Rulewith r (first_numbers ps) (behind_numbers ps) s h)
slashed_is word.Inst r ps s h = subst (λ qs. IsWritten s word.Inst (Number r ∷ qs)) (sym (parts_split ps)) (both_is word.Inst r (first_numbers ps) (behind_numbers ps) s h)
slashed_is word.Cong r ps s h = subst (λ qs. IsWritten s word.Cong (Number r ∷ qs)) (sym (parts_split ps)) (second_is r (first_numbers ps) (behind_numbers ps) s h)
slashed_is word.Convprem r ps s h = subst (λ qs. IsWritten s word.Convprem (Number r ∷ qs)) (sym (parts_split ps)) (both_is word.Convprem r (first_numbers ps) (behind_numbers ps) s h)
slashed_is word.Convback r ps s h = subst (λ qs. IsWritten s word.Convback (Number r ∷ qs)) (sym (parts_split ps)) (both_is word.Convback r (first_numbers ps) (behind_numbers ps) s h)
slashed_is word.Arg r ps s h = subst (λ qs. IsWritten s word.Arg (Number r ∷ qs)) (sym (parts_split ps)) (both_is word.Arg r (first_numbers ps) (behind_numbers ps) s h)
slashed_is word.Natural r ps s h = subst (λ qs. IsWritten s word.Natural (Number r ∷ qs)) (sym (parts_split ps)) (both_is word.Natural r (first_numbers ps) (behind_numbers ps) s h)

after_is : (step : ℕ → List Part → Told Stated) (w : Word) → ((r : ℕ) (ps : List Part) (s : Stated) → step r ps ≡ Ok s → IsWritten s w (Number r ∷ ps))
    → (ps : List Part) (s : Stated) → after_number step ps ≡ Ok s → IsWritten s w ps
after_is step w is [] s h = none_told s h
after_is step w is (Number r ∷ ps) s h = is r ps s h
after_is step w is (Slash ∷ ps) s h = none_told s h

-- what is told is written so
pub step_is_written : (w : Word) (ps : List Part) (s : Stated) → step_of w ps ≡ Ok s → IsWritten s w ps
step_is_written word.Var ps s h = numbers_are word.Var ps s h
step_is_written word.Generic ps s h = numbers_are word.Generic ps s h
step_is_written word.Meta ps s h = after_is (listed word.Meta) word.Meta (listed_is word.Meta) ps s h
step_is_written word.Metacong ps s h = after_is (listed word.Metacong) word.Metacong (listed_is word.Metacong) ps s h
step_is_written word.Abs ps s h = numbers_are word.Abs ps s h
step_is_written word.Subst ps s h = numbers_are word.Subst ps s h
step_is_written word.Substeq ps s h = numbers_are word.Substeq ps s h
step_is_written word.Refl ps s h = numbers_are word.Refl ps s h
step_is_written word.Sym ps s h = numbers_are word.Sym ps s h
step_is_written word.Trans ps s h = numbers_are word.Trans ps s h
step_is_written word.Conv ps s h = numbers_are word.Conv ps s h
step_is_written word.Conveq ps s h = numbers_are word.Conveq ps s h
step_is_written word.Left ps s h = numbers_are word.Left ps s h
step_is_written word.Right ps s h = numbers_are word.Right ps s h
step_is_written word.Typeof ps s h = numbers_are word.Typeof ps s h
step_is_written word.Domain ps s h = numbers_are word.Domain ps s h
step_is_written word.Boundary ps s h = numbers_are word.Boundary ps s h
step_is_written word.Widen ps s h = numbers_are word.Widen ps s h
step_is_written word.Btype ps s h = numbers_are word.Btype ps s h
step_is_written word.Bterm ps s h = numbers_are word.Bterm ps s h
step_is_written word.Beqty ps s h = numbers_are word.Beqty ps s h
step_is_written word.Beqtm ps s h = numbers_are word.Beqtm ps s h
step_is_written word.Rule ps s h = after_is (listed word.Rule) word.Rule (listed_is word.Rule) ps s h
step_is_written word.Rulewith ps s h = after_is (listed word.Rulewith) word.Rulewith (listed_is word.Rulewith) ps s h
step_is_written word.Inst ps s h = after_is (listed word.Inst) word.Inst (listed_is word.Inst) ps s h
step_is_written word.Cong ps s h = after_is (slashed word.Cong) word.Cong (slashed_is word.Cong) ps s h
step_is_written word.Convprem ps s h = after_is (slashed word.Convprem) word.Convprem (slashed_is word.Convprem) ps s h
step_is_written word.Convback ps s h = after_is (slashed word.Convback) word.Convback (slashed_is word.Convback) ps s h
step_is_written word.Arg ps s h = numbers_are word.Arg ps s h
step_is_written word.Natural ps s h = numbers_are word.Natural ps s h

-- ---- what is written is told
part_back : (ps : List Part) → map value_of_part (map part_of ps) ≡ ps
part_back [] = refl
part_back (Number n ∷ ps) = ap (λ qs. Number n ∷ qs) (part_back ps)
part_back (Slash ∷ ps) = ap (λ qs. Slash ∷ qs) (part_back ps)

some_word : (v w : Word) → ◌≡◌ {A = Option Word} (Some v) (Some w) → v ≡ w
some_word v w h = cc

same_word : (v w : Word) → spelling_of v ≡ spelling_of w → v ≡ w
same_word v w h = some_word v w (sym (word_of_spelling v) ∙ ap word_of h ∙ word_of_spelling w)

pub no_word : (w : Word) → spelling_of w ≡ codes "metainst" → ⊥
no_word w h = clash (sym (word_of_spelling w) ∙ ap word_of h)
  where
    clash : ◌≡◌ {A = Option Word} (Some w) None → ⊥
    clash e = cc

written_at : (v : Word) (s : Stated) (w : Word) (ps : List Part) → spelling_of v ≡ (written s).0 → step_of v (map value_of_part (written s).1) ≡ Ok s → IsWritten s w ps → step_of w ps ≡ Ok s
written_at v s w ps spells told h =
    ap (λ x. step_of x ps) (same_word w v (h.0 ∙ sym spells)) ∙ ap (step_of v) (sym (part_back ps) ∙ ap (map value_of_part) h.1) ∙ told

first_of : (ns : List ℕ) (ps : List AnyPart) → first_numbers (map value_of_part (map number ns ++ (slash ∷ ps))) ≡ ns
first_of [] ps = refl
first_of (n ∷ ns) ps = ap (λ ms. n ∷ ms) (first_of ns ps)

behind_of : (ns : List ℕ) (ps : List AnyPart) → behind_numbers (map value_of_part (map number ns ++ (slash ∷ ps))) ≡ Slash ∷ map value_of_part ps
behind_of [] ps = refl
behind_of (n ∷ ns) ps = behind_of ns ps

first_all : (ns : List ℕ) → first_numbers (map value_of_part (map number ns)) ≡ ns
first_all [] = refl
first_all (n ∷ ns) = ap (λ ms. n ∷ ms) (first_all ns)

behind_all : (ns : List ℕ) → behind_numbers (map value_of_part (map number ns)) ≡ []
behind_all [] = refl
behind_all (n ∷ ns) = behind_all ns

list_told : (step : List ℕ → Stated) (ns : List ℕ) → with_list step (map value_of_part (map number ns)) ≡ Ok (step ns)
list_told step ns =
    ap (λ qs. made step (with_nothing qs (first_numbers (map value_of_part (map number ns))))) (behind_all ns) ∙ ap (λ ms. Ok (step ms)) (first_all ns)

second_told : (r : ℕ) (ns es : List ℕ) → slashed word.Cong r (map value_of_part (map number ns ++ (slash ∷ map number es))) ≡ Ok (by_cong r ns es)
second_told r ns es =
    ap (with_second r (first_numbers (map value_of_part (map number ns ++ (slash ∷ map number es))))) (behind_of ns (map number es))
    ∙ ap (λ ms. with_second r ms (Slash ∷ map value_of_part (map number es))) (first_of ns (map number es))
    ∙ list_told (by_cong r ns) es

third_told : (w : Word) (r : ℕ) (ns es : List ℕ) (q : ℕ)
    → moved_argument w r (first_numbers (map value_of_part (map number ns ++ (slash ∷ (map number es ++ (slash ∷ number q ∷ []))))))
    (behind_numbers (map value_of_part (map number ns ++ (slash ∷ (map number es ++ (slash ∷ number q ∷ [])))))) ≡ moved_by w r ns es q
third_told w r ns es q =
    let last = slash ∷ number q ∷ [] in
    let qs = map number es ++ last in
    ap (moved_argument w r (first_numbers (map value_of_part (map number ns ++ (slash ∷ qs))))) (behind_of ns qs)
    ∙ ap (λ ms. moved_argument w r ms (Slash ∷ map value_of_part qs)) (first_of ns qs)
    ∙ ap (with_third w r ns (first_numbers (map value_of_part qs))) (behind_of es (number q ∷ []))
    ∙ ap (λ ms. with_third w r ns ms (Slash ∷ Number q ∷ [])) (first_of es (number q ∷ []))

pub written_is_told : (s : Stated) (w : Word) (ps : List Part) → IsWritten s w ps → step_of w ps ≡ Ok s
written_is_told (by_var p) w ps h = written_at word.Var (by_var p) w ps refl refl h
written_is_told (by_generic p) w ps h = written_at word.Generic (by_generic p) w ps refl refl h
written_is_told (by_meta r ns) w ps h = written_at word.Meta (by_meta r ns) w ps refl (list_told (by_meta r) ns) h
written_is_told (by_metacong r ns) w ps h = written_at word.Metacong (by_metacong r ns) w ps refl (list_told (by_metacong r) ns) h
written_is_told (by_abs p q) w ps h = written_at word.Abs (by_abs p q) w ps refl refl h
written_is_told (by_subst p q) w ps h = written_at word.Subst (by_subst p q) w ps refl refl h
written_is_told (by_substeq p q) w ps h = written_at word.Substeq (by_substeq p q) w ps refl refl h
written_is_told (by_refl p) w ps h = written_at word.Refl (by_refl p) w ps refl refl h
written_is_told (by_sym p) w ps h = written_at word.Sym (by_sym p) w ps refl refl h
written_is_told (by_trans p q) w ps h = written_at word.Trans (by_trans p q) w ps refl refl h
written_is_told (by_conv p q) w ps h = written_at word.Conv (by_conv p q) w ps refl refl h
written_is_told (by_conveq p q) w ps h = written_at word.Conveq (by_conveq p q) w ps refl refl h
written_is_told (by_left p) w ps h = written_at word.Left (by_left p) w ps refl refl h
written_is_told (by_right p) w ps h = written_at word.Right (by_right p) w ps refl refl h
written_is_told (by_typeof p) w ps h = written_at word.Typeof (by_typeof p) w ps refl refl h
written_is_told (by_domain p) w ps h = written_at word.Domain (by_domain p) w ps refl refl h
written_is_told (by_boundary p) w ps h = written_at word.Boundary (by_boundary p) w ps refl refl h
written_is_told (by_widen p q) w ps h = written_at word.Widen (by_widen p q) w ps refl refl h
written_is_told by_btype w ps h = written_at word.Btype by_btype w ps refl refl h
written_is_told (by_bterm p) w ps h = written_at word.Bterm (by_bterm p) w ps refl refl h
written_is_told (by_beqty p q) w ps h = written_at word.Beqty (by_beqty p q) w ps refl refl h
written_is_told (by_beqtm p q r) w ps h = written_at word.Beqtm (by_beqtm p q r) w ps refl refl h
written_is_told (by_rule r ns) w ps h = written_at word.Rule (by_rule r ns) w ps refl (list_told (by_rule r) ns) h
written_is_told (by_rulewith r b ns) w ps h = written_at word.Rulewith (by_rulewith r b ns) w ps refl (list_told (by_rulewith r b) ns) h
written_is_told (by_inst r ns) w ps h = written_at word.Inst (by_inst r ns) w ps refl (list_told (by_inst r) ns) h
written_is_told (by_cong r ns es) w ps h = written_at word.Cong (by_cong r ns es) w ps refl (second_told r ns es) h
written_is_told (by_convprem r ns es q) w ps h = written_at word.Convprem (by_convprem r ns es q) w ps refl (third_told word.Convprem r ns es q) h
written_is_told (by_convback r ns es q) w ps h = written_at word.Convback (by_convback r ns es q) w ps refl (third_told word.Convback r ns es q) h
written_is_told (by_arg p q) w ps h = written_at word.Arg (by_arg p q) w ps refl refl h
written_is_told (by_natural p) w ps h = written_at word.Natural (by_natural p) w ps refl refl h
written_is_told (by_metainst p ms qs) w ps h = absurd (no_word w h.0)

err_form : (e : Fault) (s : Stated) → ◌≡◌ {A = Told Stated} (Err e) (Ok s) → ⊥
err_form e s h = cc

-- what a function ensures that tells the step
pub told_some : (w : Word) (ps : List Part) (result : Result StatedStep Fault) → Tells stated_step (step_of w ps) result → IfOk result (λ s. IsWritten (stated_step s) w ps)
told_some w ps (Ok s) h = step_is_written w ps (stated_step s) h
told_some w ps (Err e) h = tt

form_is_no_memory : Form ≢ Memory
form_is_no_memory e = cc

pub told_none : (w : Word) (ps : List Part) (result : Result StatedStep Fault) → Tells stated_step (step_of w ps) result → IsErrOf result Form → (s : Stated) → IsWritten s w ps → ⊥
told_none w ps result h e s is =
    err_form Form s (sym (subst (Tells stated_step (step_of w ps)) e h form_is_no_memory) ∙ written_is_told s w ps is)
