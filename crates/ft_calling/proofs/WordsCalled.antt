-- Words, by what their calls answer.
use Rattle.std.proofs.Common.{◌≡◌, ◌∙◌, ℕ, Bool, true, false, ap, refl, sym, subst, IfOk}
use Rattle.std.specs.Prelude.{Result, Err}
use Rattle.ft_items.specs.Item.{Stated, by_refl, by_sym, by_natural, by_left, by_right, by_typeof, by_domain, by_boundary, by_trans, by_widen, by_conv, by_conveq, by_substeq, by_arg}
use Rattle.ft_items.specs.Store.{Assertion}
use Rattle.ft_reference.specs.Nucleus as reference
use Rattle.ft_syntax.specs.Laws.{extends_same}
use Rattle.ft_grammar.specs.declared.form.OneForm.{OneForm}
use Rattle.ft_grammar.specs.declared.form.OneForm.TheVariants as one
use Rattle.ft_grammar.specs.declared.form.TwoForm.{TwoForm}
use Rattle.ft_grammar.specs.declared.form.TwoForm.TheVariants as two
use Rattle.ft_meaning.specs.Values as meaning
use Rattle.ft_meaning.specs.Values.{judgement, boundary}
use Rattle.ft_meaning.specs.Forms.{judged, word_at, word_at_two}
use Rattle.ft_judge.specs.declared.fault.Fault.{Fault}
use Rattle.ft_kernel.specs.State.{State, IsThesisOf, IsBoundaryOf}
use Rattle.ft_calls.specs.Answers.{Answers}
use Rattle.ft_nucleus.specs.Sides.{side_step}
use Rattle.ft_nucleus.specs.declared.parts.Which.TheVariants as which
use Rattle.ft_values.specs.Kept.{stated_at}
use Rattle.ft_telling.specs.declared.halt.Halt.{Halt}
use Rattle.ft_telling.specs.declared.halt.Why.TheVariants as why
use Rattle.ft_telling.specs.Telling.{state_of, halted_at, halt_by, IsWhyOver}
use Rattle.ft_telling.specs.Words.{WordIsTold, BoundaryWordIsTold, PairWordIsTold, is_term_equation}
use Rattle.ft_telling.proofs.Calls.{tells_one, tells_two}
use Rattle.ft_telling.proofs.WordsTold.{refl_tells, sym_tells, left_tells, right_tells, typeof_tells, domain_tells, boundaryof_tells, boundary_left_tells, boundary_right_tells, boundary_typeof_tells, boundary_domain_tells, trans_tells, widen_tells, convert_equation_tells, convert_tells}
use Rattle.ft_calling.specs.Calling.{ToldJudgement, ToldBoundary}
use Rattle.ft_calling.proofs.Leaving.{stays_leaves}
use Rattle.ft_calling.proofs.Telling.{told_judgement, told_boundary}

-- ---- a word at a judgement

word_told : (word : OneForm) (n : ℕ → Stated) → WordIsTold word n → (s t : State) (at j : ℕ)
    (asked : OneForm) (r : Result ℕ Fault) (o : Result ℕ Halt) → asked ≡ word → IsThesisOf s j
    → Answers s (n j) r t → IfOk r (λ j. IsThesisOf t j) → o ≡ halted_at at r
    → ToldJudgement s (word_at at asked (judgement (stated_at s j))) o t
word_told word n is s t at j asked r o w h a kind e =
    subst (λ w. ToldJudgement s (word_at at w (judgement (stated_at s j))) o t) (sym w)
    (told_judgement s t (n j) (word_at at word (judgement (stated_at s j))) at r o
    (λ u. is s t u at j r h a) a kind e)

natural_tells : WordIsTold one.Natural by_natural
natural_tells s t u at j r is h =
    tells_one by_natural by_natural (λ W p. refl) s t u at j r (is.0, is.1) h

pub refl_told : (s t : State) (at j : ℕ) (asked : OneForm) (r : Result ℕ Fault)
    (o : Result ℕ Halt) → asked ≡ one.Refl → IsThesisOf s j → Answers s (by_refl j) r t
    → IfOk r (λ j. IsThesisOf t j) → o ≡ halted_at at r
    → ToldJudgement s (word_at at asked (judgement (stated_at s j))) o t
refl_told s t at j asked r o w h a kind e =
    word_told one.Refl by_refl refl_tells s t at j asked r o w h a kind e

pub sym_told : (s t : State) (at j : ℕ) (asked : OneForm) (r : Result ℕ Fault)
    (o : Result ℕ Halt) → asked ≡ one.Sym → IsThesisOf s j → Answers s (by_sym j) r t
    → IfOk r (λ j. IsThesisOf t j) → o ≡ halted_at at r
    → ToldJudgement s (word_at at asked (judgement (stated_at s j))) o t
sym_told s t at j asked r o w h a kind e =
    word_told one.Sym by_sym sym_tells s t at j asked r o w h a kind e

pub natural_told : (s t : State) (at j : ℕ) (asked : OneForm) (r : Result ℕ Fault)
    (o : Result ℕ Halt) → asked ≡ one.Natural → IsThesisOf s j → Answers s (by_natural j) r t
    → IfOk r (λ j. IsThesisOf t j) → o ≡ halted_at at r
    → ToldJudgement s (word_at at asked (judgement (stated_at s j))) o t
natural_told s t at j asked r o w h a kind e =
    word_told one.Natural by_natural natural_tells s t at j asked r o w h a kind e

pub left_told : (s t : State) (at j : ℕ) (asked : OneForm) (r : Result ℕ Fault)
    (o : Result ℕ Halt) → asked ≡ one.Left → IsThesisOf s j → Answers s (side_step which.Left j) r t
    → IfOk r (λ j. IsThesisOf t j) → o ≡ halted_at at r
    → ToldJudgement s (word_at at asked (judgement (stated_at s j))) o t
left_told s t at j asked r o w h a kind e =
    word_told one.Left by_left left_tells s t at j asked r o w h a kind e

pub right_told : (s t : State) (at j : ℕ) (asked : OneForm) (r : Result ℕ Fault)
    (o : Result ℕ Halt) → asked ≡ one.Right → IsThesisOf s j → Answers s (side_step which.Right j) r t
    → IfOk r (λ j. IsThesisOf t j) → o ≡ halted_at at r
    → ToldJudgement s (word_at at asked (judgement (stated_at s j))) o t
right_told s t at j asked r o w h a kind e =
    word_told one.Right by_right right_tells s t at j asked r o w h a kind e

pub typeof_told : (s t : State) (at j : ℕ) (asked : OneForm) (r : Result ℕ Fault)
    (o : Result ℕ Halt) → asked ≡ one.Typeof → IsThesisOf s j → Answers s (side_step which.Ty j) r t
    → IfOk r (λ j. IsThesisOf t j) → o ≡ halted_at at r
    → ToldJudgement s (word_at at asked (judgement (stated_at s j))) o t
typeof_told s t at j asked r o w h a kind e =
    word_told one.Typeof by_typeof typeof_tells s t at j asked r o w h a kind e

pub domain_told : (s t : State) (at j : ℕ) (asked : OneForm) (r : Result ℕ Fault)
    (o : Result ℕ Halt) → asked ≡ one.Domain → IsThesisOf s j → Answers s (side_step which.Domain j) r t
    → IfOk r (λ j. IsThesisOf t j) → o ≡ halted_at at r
    → ToldJudgement s (word_at at asked (judgement (stated_at s j))) o t
domain_told s t at j asked r o w h a kind e =
    word_told one.Domain by_domain domain_tells s t at j asked r o w h a kind e

pub boundaryof_told : (s t : State) (at j : ℕ) (r : Result ℕ Fault) (o : Result ℕ Halt)
    → IsThesisOf s j → Answers s (by_boundary j) r t → IfOk r (λ b. IsBoundaryOf t b)
    → o ≡ halted_at at r
    → ToldBoundary s (word_at at one.Boundaryof (judgement (stated_at s j))) o t
boundaryof_told s t at j r o h a kind e =
    told_boundary s t (by_boundary j) (word_at at one.Boundaryof (judgement (stated_at s j))) at r o
    (λ u. boundaryof_tells s t u at j r h a) a kind e

-- ---- a word at a boundary

boundary_word_told : (word : OneForm) (n : ℕ → Stated) → BoundaryWordIsTold word n → (s t : State)
    (at b : ℕ) (asked : OneForm) (r : Result ℕ Fault) (o : Result ℕ Halt) → asked ≡ word
    → IsBoundaryOf s b → Answers s (n b) r t → IfOk r (λ j. IsThesisOf t j) → o ≡ halted_at at r
    → ToldJudgement s (word_at at asked (boundary (stated_at s b))) o t
boundary_word_told word n is s t at b asked r o w h a kind e =
    subst (λ w. ToldJudgement s (word_at at w (boundary (stated_at s b))) o t) (sym w)
    (told_judgement s t (n b) (word_at at word (boundary (stated_at s b))) at r o
    (λ u. is s t u at b r h a) a kind e)

pub boundary_left_told : (s t : State) (at b : ℕ) (asked : OneForm) (r : Result ℕ Fault)
    (o : Result ℕ Halt) → asked ≡ one.Left → IsBoundaryOf s b
    → Answers s (side_step which.Left b) r t → IfOk r (λ j. IsThesisOf t j) → o ≡ halted_at at r
    → ToldJudgement s (word_at at asked (boundary (stated_at s b))) o t
boundary_left_told s t at b asked r o w h a kind e =
    boundary_word_told one.Left by_left boundary_left_tells s t at b asked r o w h a kind e

pub boundary_right_told : (s t : State) (at b : ℕ) (asked : OneForm) (r : Result ℕ Fault)
    (o : Result ℕ Halt) → asked ≡ one.Right → IsBoundaryOf s b
    → Answers s (side_step which.Right b) r t → IfOk r (λ j. IsThesisOf t j) → o ≡ halted_at at r
    → ToldJudgement s (word_at at asked (boundary (stated_at s b))) o t
boundary_right_told s t at b asked r o w h a kind e =
    boundary_word_told one.Right by_right boundary_right_tells s t at b asked r o w h a kind e

pub boundary_typeof_told : (s t : State) (at b : ℕ) (asked : OneForm) (r : Result ℕ Fault)
    (o : Result ℕ Halt) → asked ≡ one.Typeof → IsBoundaryOf s b
    → Answers s (side_step which.Ty b) r t → IfOk r (λ j. IsThesisOf t j) → o ≡ halted_at at r
    → ToldJudgement s (word_at at asked (boundary (stated_at s b))) o t
boundary_typeof_told s t at b asked r o w h a kind e =
    boundary_word_told one.Typeof by_typeof boundary_typeof_tells s t at b asked r o w h a kind e

pub boundary_domain_told : (s t : State) (at b : ℕ) (asked : OneForm) (r : Result ℕ Fault)
    (o : Result ℕ Halt) → asked ≡ one.Domain → IsBoundaryOf s b
    → Answers s (side_step which.Domain b) r t → IfOk r (λ j. IsThesisOf t j) → o ≡ halted_at at r
    → ToldJudgement s (word_at at asked (boundary (stated_at s b))) o t
boundary_domain_told s t at b asked r o w h a kind e =
    boundary_word_told one.Domain by_domain boundary_domain_tells s t at b asked r o w h a kind e

-- ---- what is stuck

-- a run that is stuck at once, over a list that stays
stuck_told : (s t : State) (m : meaning.Run meaning.Value) (h : Halt)
    → ((x : meaning.State) → m x ≡ (Err (meaning.halts meaning.stuck), x)) → s ≡ t
    → h.why ≡ why.Stuck → ToldJudgement s m (Err h) t
stuck_told s t m h is e w =
    subst (λ t. ToldJudgement s m (Err h) t) e
    (record {
      tells = λ u no. (
        subst (λ y. IsWhyOver s.trees y) (sym w) tt,
        is (state_of s u)
            ∙ ap (λ y. (Err (meaning.halts (halt_by s.trees h.at y)), state_of s u)) (sym w),
      );
      kind = tt;
      leaves = stays_leaves s s (refl, extends_same s.trees s.trees refl);
      same = refl;
    })

-- the words that are stuck at a boundary
abbrev pub IsStuckAtBoundary : OneForm → Type 0
IsStuckAtBoundary one.Left = ⊥
IsStuckAtBoundary one.Right = ⊥
IsStuckAtBoundary one.Typeof = ⊥
IsStuckAtBoundary one.Domain = ⊥
IsStuckAtBoundary one.SomeWord = ⊥
IsStuckAtBoundary w = Unit {0}

boundary_stuck : (at : ℕ) (w : OneForm) (a : Assertion) (x : meaning.State) → IsStuckAtBoundary w
    → word_at at w (boundary a) x ≡ (Err (meaning.halts meaning.stuck), x)
boundary_stuck at one.Refl a x h = refl
boundary_stuck at one.Sym a x h = refl
boundary_stuck at one.Left a x h = absurd h
boundary_stuck at one.Right a x h = absurd h
boundary_stuck at one.Typeof a x h = absurd h
boundary_stuck at one.Domain a x h = absurd h
boundary_stuck at one.Natural a x h = refl
boundary_stuck at one.Normal a x h = refl
boundary_stuck at one.Boundaryof a x h = refl
boundary_stuck at one.SomeWord a x h = absurd h

pub boundary_stuck_told : (s t : State) (at b : ℕ) (asked : OneForm) (h : Halt)
    → IsStuckAtBoundary asked → s ≡ t → h.why ≡ why.Stuck
    → ToldJudgement s (word_at at asked (boundary (stated_at s b))) (Err h) t
boundary_stuck_told s t at b asked h is e w =
    stuck_told s t (word_at at asked (boundary (stated_at s b))) h
    (λ x. boundary_stuck at asked (stated_at s b) x is) e w

-- ---- a word at two judgements

pair_told : (word : TwoForm) (n : ℕ → ℕ → Stated) → PairWordIsTold word n → (s t : State)
    (at i j : ℕ) (asked : TwoForm) (r : Result ℕ Fault) (o : Result ℕ Halt) → asked ≡ word
    → IsThesisOf s i → IsThesisOf s j → Answers s (n i j) r t → IfOk r (λ j. IsThesisOf t j)
    → o ≡ halted_at at r → (second : ℕ)
    → ToldJudgement s
    (word_at_two at second asked (judgement (stated_at s i)) (judgement (stated_at s j))) o t
pair_told word n is s t at i j asked r o w h k a kind e second =
    subst
    (λ w. ToldJudgement s
    (word_at_two at second w (judgement (stated_at s i)) (judgement (stated_at s j))) o t) (sym w)
    (told_judgement s t (n i j)
    (word_at_two at second word (judgement (stated_at s i)) (judgement (stated_at s j))) at r o
    (λ u. is s t u at second i j r h k a) a kind e)

rewrite_tells : PairWordIsTold two.Rewrite by_substeq
rewrite_tells s t u at second i j r is js h =
    tells_two by_substeq by_substeq (λ W p q. refl) s t u at i j r (is.0, is.1) (js.0, js.1) h

pub trans_told : (s t : State) (at i j : ℕ) (asked : TwoForm) (r : Result ℕ Fault)
    (o : Result ℕ Halt) → asked ≡ two.Trans → IsThesisOf s i → IsThesisOf s j
    → Answers s (by_trans i j) r t → IfOk r (λ j. IsThesisOf t j) → o ≡ halted_at at r
    → (second : ℕ)
    → ToldJudgement s
    (word_at_two at second asked (judgement (stated_at s i)) (judgement (stated_at s j))) o t
trans_told s t at i j asked r o w h k a kind e second =
    pair_told two.Trans by_trans trans_tells s t at i j asked r o w h k a kind e second

pub widen_told : (s t : State) (at i j : ℕ) (asked : TwoForm) (r : Result ℕ Fault)
    (o : Result ℕ Halt) → asked ≡ two.Widen → IsThesisOf s i → IsThesisOf s j
    → Answers s (by_widen i j) r t → IfOk r (λ j. IsThesisOf t j) → o ≡ halted_at at r
    → (second : ℕ)
    → ToldJudgement s
    (word_at_two at second asked (judgement (stated_at s i)) (judgement (stated_at s j))) o t
widen_told s t at i j asked r o w h k a kind e second =
    pair_told two.Widen by_widen widen_tells s t at i j asked r o w h k a kind e second

pub rewrite_told : (s t : State) (at i j : ℕ) (asked : TwoForm) (r : Result ℕ Fault)
    (o : Result ℕ Halt) → asked ≡ two.Rewrite → IsThesisOf s i → IsThesisOf s j
    → Answers s (by_substeq i j) r t → IfOk r (λ j. IsThesisOf t j) → o ≡ halted_at at r
    → (second : ℕ)
    → ToldJudgement s
    (word_at_two at second asked (judgement (stated_at s i)) (judgement (stated_at s j))) o t
rewrite_told s t at i j asked r o w h k a kind e second =
    pair_told two.Rewrite by_substeq rewrite_tells s t at i j asked r o w h k a kind e second

pub convert_equation_told : (s t : State) (at i j : ℕ) (b : Bool) (r : Result ℕ Fault)
    (o : Result ℕ Halt) → b ≡ is_term_equation (stated_at s i).statement → b ≡ true
    → IsThesisOf s i → IsThesisOf s j → Answers s (by_conveq i j) r t
    → IfOk r (λ j. IsThesisOf t j) → o ≡ halted_at at r → (second : ℕ)
    → ToldJudgement s
    (word_at_two at second two.Convert (judgement (stated_at s i)) (judgement (stated_at s j))) o t
convert_equation_told s t at i j b r o is w h k a kind e second =
    told_judgement s t (by_conveq i j)
    (word_at_two at second two.Convert (judgement (stated_at s i)) (judgement (stated_at s j))) at r o
    (λ u. convert_equation_tells s t u at second i j r h k (sym w ∙ is) a) a kind e

pub convert_told : (s t : State) (at i j : ℕ) (b : Bool) (r : Result ℕ Fault)
    (o : Result ℕ Halt) → b ≡ is_term_equation (stated_at s i).statement → b ≡ false
    → IsThesisOf s i → IsThesisOf s j → Answers s (by_conv i j) r t
    → IfOk r (λ j. IsThesisOf t j) → o ≡ halted_at at r → (second : ℕ)
    → ToldJudgement s
    (word_at_two at second two.Convert (judgement (stated_at s i)) (judgement (stated_at s j))) o t
convert_told s t at i j b r o is w h k a kind e second =
    told_judgement s t (by_conv i j)
    (word_at_two at second two.Convert (judgement (stated_at s i)) (judgement (stated_at s j))) at r o
    (λ u. convert_tells s t u at second i j r h k (sym w ∙ is) a) a kind e

pub other_convert_told : (s t : State) (at i j : ℕ) (asked : TwoForm) (o : Result ℕ Halt)
    → asked ≡ two.Convert
    → ((second : ℕ) → ToldJudgement s
    (word_at_two at second two.Convert (judgement (stated_at s i)) (judgement (stated_at s j))) o t)
    → (second : ℕ)
    → ToldJudgement s
    (word_at_two at second asked (judgement (stated_at s i)) (judgement (stated_at s j))) o t
other_convert_told s t at i j asked o w h second =
    subst
    (λ w. ToldJudgement s
    (word_at_two at second w (judgement (stated_at s i)) (judgement (stated_at s j))) o t) (sym w)
    (h second)

pub fill_told : (s t : State) (at i j : ℕ) (asked : TwoForm) (h : Halt) → asked ≡ two.Fill → s ≡ t
    → h.why ≡ why.Stuck → (second : ℕ)
    → ToldJudgement s
    (word_at_two at second asked (judgement (stated_at s i)) (judgement (stated_at s j))) (Err h) t
fill_told s t at i j asked h w e k second =
    subst
    (λ w. ToldJudgement s
    (word_at_two at second w (judgement (stated_at s i)) (judgement (stated_at s j))) (Err h) t)
    (sym w)
    (stuck_told s t
    (word_at_two at second two.Fill (judgement (stated_at s i)) (judgement (stated_at s j))) h
    (λ x. refl) e k)

-- ---- arguments

pub argument_told : (s t : State) (at i j : ℕ) (r : Result ℕ Fault) (o : Result ℕ Halt)
    → IsThesisOf s j → Answers s (by_arg i j) r t → IfOk r (λ j. IsThesisOf t j)
    → o ≡ halted_at at r
    → ToldJudgement s (judged at (λ W. reference.argument W i (stated_at s j))) o t
argument_told s t at i j r o h a kind e =
    told_judgement s t (by_arg i j) (judged at (λ W. reference.argument W i (stated_at s j))) at r o
    (λ u. tells_one (by_arg i) (by_arg i) (λ W p. refl) s t u at j r (h.0, h.1) a) a kind e
