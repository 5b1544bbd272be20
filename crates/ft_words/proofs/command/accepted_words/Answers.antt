use Rattle.std.proofs.Common.{◌≡◌, ◌≤◌, ◌∙◌, ap, subst, refl, true, false, Bool, ℕ, List, Some, None, codes, [], ◌∷◌, option_map, inl, inr, arith}
use Rattle.std.proofs.lemmas.Bool.{cases_lt}
use Rattle.clap.proofs.OnLiterals.{clap_on_literals}
use Rattle.ft_answers.specs.CommandLine.{wanted_of, number_in, is_digit}
use Rattle.ft_answers.specs.declared.wanted.Wanted.TheVariants.{Run, Export, Check}
use Rattle.ft_words.proofs.command.accepted_words.Goals as goal

run_is : wanted_of (codes "run" ∷ []) ≡ Some (Run 1000000)
unfolding clap_on_literals
run_is = refl

export_is : wanted_of (codes "export" ∷ []) ≡ Some (Export 1000000)
unfolding clap_on_literals
export_is = refl

check_is : wanted_of (codes "check" ∷ []) ≡ Some (Check false)
unfolding clap_on_literals
check_is = refl

one_thread_is : wanted_of (codes "check" ∷ codes "--one-thread" ∷ []) ≡ Some (Check true)
unfolding clap_on_literals
one_thread_is = refl

-- at each digit that is written out
digit_cases : (P : ℕ → Type 0) (d : ℕ) → 48 ≤ d → d ≤ 57 → P 48 → P 49 → P 50 → P 51 → P 52 → P 53 → P 54 → P 55 → P 56 → P 57 → P d
digit_cases P d low high p0 p1 p2 p3 p4 p5 p6 p7 p8 p9 =
    elim (cases_lt d 49) [
      | inl h ↦ let e : 48 ≡ d = omega arith in subst P e p0
      | inr h0 ↦
          elim (cases_lt d 50) [
            | inl h ↦ let e : 49 ≡ d = omega arith in subst P e p1
            | inr h1 ↦
                elim (cases_lt d 51) [
                  | inl h ↦ let e : 50 ≡ d = omega arith in subst P e p2
                  | inr h2 ↦
                      elim (cases_lt d 52) [
                        | inl h ↦ let e : 51 ≡ d = omega arith in subst P e p3
                        | inr h3 ↦
                            elim (cases_lt d 53) [
                              | inl h ↦ let e : 52 ≡ d = omega arith in subst P e p4
                              | inr h4 ↦
                                  elim (cases_lt d 54) [
                                    | inl h ↦ let e : 53 ≡ d = omega arith in subst P e p5
                                    | inr h5 ↦
                                        elim (cases_lt d 55) [
                                          | inl h ↦ let e : 54 ≡ d = omega arith in subst P e p6
                                          | inr h6 ↦
                                              elim (cases_lt d 56) [
                                                | inl h ↦ let e : 55 ≡ d = omega arith in subst P e p7
                                                | inr h7 ↦
                                                    elim (cases_lt d 57) [
                                                      | inl h ↦ let e : 56 ≡ d = omega arith in subst P e p8
                                                      | inr h8 ↦
                                                          let e : 57 ≡ d = omega arith in subst P e p9
                                                    ]
                                              ]
                                        ]
                                  ]
                            ]
                      ]
                ]
          ]
    ]

abbrev RunTakes : List ℕ → ℕ → Type 0
RunTakes ds d = wanted_of (codes "run" ∷ codes "--budget" ∷ (d ∷ ds) ∷ []) ≡ option_map (λ n. Run n) (number_in 1000000000 (d ∷ ds))

run_takes : (ds : List ℕ) (d : ℕ) → 48 ≤ d → d ≤ 57 → RunTakes ds d
unfolding clap_on_literals
run_takes ds d low high = digit_cases (RunTakes ds) d low high refl refl refl refl refl refl refl refl refl refl

abbrev ExportTakes : List ℕ → ℕ → Type 0
ExportTakes ds d = wanted_of (codes "export" ∷ codes "--budget" ∷ (d ∷ ds) ∷ []) ≡ option_map (λ n. Export n) (number_in 1000000000 (d ∷ ds))

export_takes : (ds : List ℕ) (d : ℕ) → 48 ≤ d → d ≤ 57 → ExportTakes ds d
unfolding clap_on_literals
export_takes ds d low high = digit_cases (ExportTakes ds) d low high refl refl refl refl refl refl refl refl refl refl

digit_first : (most d n : ℕ) (ds : List ℕ) → number_in most (d ∷ ds) ≡ Some n → (48 ≤ d) × (d ≤ 57)
digit_first most d n ds h = go (is_digit d) refl h
  where
    go : (b : Bool) → is_digit d ≡ b → number_in most (d ∷ ds) ≡ Some n → (48 ≤ d) × (d ≤ 57)
    go true e h = grind arith
    go false e h = let no : number_in most (d ∷ ds) ≡ None = rw e refl in cc

run_within : (text : List ℕ) (n : ℕ) → number_in 1000000000 text ≡ Some n → wanted_of (codes "run" ∷ codes "--budget" ∷ text ∷ []) ≡ Some (Run n)
run_within [] n h = cc
run_within (d ∷ ds) n h =
    let first = digit_first 1000000000 d n ds h in
    run_takes ds d first.0 first.1 ∙ ap (option_map (λ n. Run n)) h

export_within : (text : List ℕ) (n : ℕ) → number_in 1000000000 text ≡ Some n → wanted_of (codes "export" ∷ codes "--budget" ∷ text ∷ []) ≡ Some (Export n)
export_within [] n h = cc
export_within (d ∷ ds) n h =
    let first = digit_first 1000000000 d n ds h in
    export_takes ds d first.0 first.1 ∙ ap (option_map (λ n. Export n)) h

pub returns-clause-run : goal.returns-clause-run
returns-clause-run c = run_is

pub returns-clause-export : goal.returns-clause-export
returns-clause-export c = export_is

pub returns-clause-check : goal.returns-clause-check
returns-clause-check c = check_is

pub returns-clause-one_thread : goal.returns-clause-one_thread
returns-clause-one_thread c = one_thread_is

pub returns-clause-run_within : goal.returns-clause-run_within
returns-clause-run_within c = run_within

pub returns-clause-export_within : goal.returns-clause-export_within
returns-clause-export_within c = export_within
