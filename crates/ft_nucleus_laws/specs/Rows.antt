-- Worked answers of each call, and a row for each of its refusals.
use Rattle.std.specs.Prelude.{[], ◌∷◌, ◌++◌, codes, Ok, Err, ◌≡◌}
use Rattle.ft_theory.specs.Expressions.{bound, free}
use Rattle.ft_theory.specs.Statements.{has_type, type_goal, term_goal, term_equation_goal, plain, abstracted}
use Rattle.ft_items.specs.Sets.{met, var}
use Rattle.ft_items.specs.Item.{by_var, by_generic, by_meta, by_metacong, by_abs, by_subst, by_substeq, by_refl, by_sym, by_trans, by_conv, by_conveq, by_left, by_right, by_typeof, by_domain, by_boundary, by_widen, by_btype, by_bterm, by_beqty, by_beqtm, by_rule, by_rulewith, by_inst, by_cong, by_convprem, by_convback, by_arg, by_natural, by_metainst}
use Rattle.ft_items.specs.Store.{Assertion, Declarations, no_declarations}
use Rattle.ft_items.specs.Worked.{Nat, O, S}
use Rattle.ft_reference.specs.Refusals.{WrongForm, NotAbstracted, TypeDiffers, SidesDiffer, DependentVariable, OpenBoundary, ArgumentCount, TooBig, NotApplication}
use Rattle.ft_reference.specs.Declare.{Duplicate, OpenPremise, OpenConclusion, Draft, new_variable, new_metavariable, begin, premise, finish}
use Rattle.ft_nucleus_laws.specs.Worked.{Vec, Sum, Fix, Bool, alone, at_one, nat_rule, successor_rule, fixed_rule, sum_rule, fix_rule, x_annotation, y_annotation, term_metavariable, equation_metavariable, declared, declarations, of, type_of, term_of, types_of, terms_of, under, type_boundary, term_boundary_of, types_boundary_of, terms_boundary_of, x_term, numeral, big, differs, ok, refused, Answer, AnswerOver, dependent_declarations}

-- variables and metavariables
abbrev pub VariableRows : Type 0
VariableRows = Answer (
    (by_var (4, x_annotation), ok x_term)
    ∷ (by_var (7, y_annotation), ok (of (plain (has_type (free 7) (Vec (free 4)))) (var 4 ∷ var 7 ∷ [])))
    ∷ (by_generic (7, term_metavariable), ok (of (abstracted Nat (plain (has_type (at_one 7 (bound 0)) Nat))) (met 7 ∷ [])))
    ∷ (by_generic (8, equation_metavariable), ok (of (under Nat (terms_of (bound 0) (bound 0) Nat)).statement (met 8 ∷ [])))
    ∷ (by_meta (7, term_metavariable) (x_term ∷ []), ok (of (plain (has_type (at_one 7 (free 4)) Nat)) (met 7 ∷ var 4 ∷ [])))
    ∷ (by_meta (7, term_metavariable) [], refused (ArgumentCount 0 1))
    ∷ (by_meta (7, term_metavariable) (type_of Nat ∷ []), refused WrongForm)
    ∷ (by_meta (7, term_metavariable) (term_of O Bool ∷ []), refused (TypeDiffers (differs Bool Nat)))
    ∷ (by_meta (7, term_metavariable) (term_of big Nat ∷ []), refused TooBig)
    ∷ (by_metacong (7, term_metavariable) (terms_of O (S O) Nat ∷ []), ok (of (terms_of (at_one 7 O) (at_one 7 (S O)) Nat).statement (met 7 ∷ [])))
    ∷ (by_metacong (8, equation_metavariable) (terms_of O (S O) Nat ∷ []), refused WrongForm)
    ∷ (by_metacong (7, term_metavariable) [], refused (ArgumentCount 0 1))
    ∷ (by_metacong (7, term_metavariable) (term_of O Nat ∷ []), refused WrongForm)
    ∷ (by_metacong (7, term_metavariable) (terms_of O O Bool ∷ []), refused (TypeDiffers (differs Bool Nat)))
    ∷ (by_metacong (7, term_metavariable) (terms_of O big Nat ∷ []), refused TooBig)
    ∷ [])

-- abstraction and substitution; x can't be bound while y : Vec x is there
abbrev pub SubstitutionRows : Type 0
SubstitutionRows = Answer (
    (by_abs (4, x_annotation) (of (plain (has_type (S (free 4)) Nat)) (var 4 ∷ [])), ok (under Nat (term_of (S (bound 0)) Nat)))
    ∷ (by_abs (4, x_annotation) (of (plain (term_goal (Vec (free 4)))) (var 4 ∷ [])), ok (under Nat (term_boundary_of (Vec (bound 0)))))
    ∷ (by_abs (4, x_annotation) (of (plain (has_type (free 7) (Vec (free 4)))) (var 4 ∷ var 7 ∷ [])), refused (DependentVariable 7))
    ∷ (by_subst (under Nat (term_of (S (bound 0)) Nat)) x_term, ok (of (plain (has_type (S (free 4)) Nat)) (var 4 ∷ [])))
    ∷ (by_subst (under Nat (term_boundary_of (Vec (bound 0)))) (term_of O Nat), ok (term_boundary_of (Vec O)))
    ∷ (by_subst (term_of O Nat) (term_of O Nat), refused NotAbstracted)
    ∷ (by_subst (under Nat (term_of (S (bound 0)) Nat)) (type_of Nat), refused WrongForm)
    ∷ (by_subst (under Nat (term_of (S (bound 0)) Nat)) (term_of O Bool), refused (TypeDiffers (differs Bool Nat)))
    ∷ (by_subst (under Nat (term_of (S (bound 0)) Nat)) (term_of big Nat), refused TooBig)
    ∷ (by_subst (under Nat (under (Vec (bound 0)) (type_of Nat))) (term_of big Nat), refused TooBig)
    ∷ (by_substeq (under Nat (term_of (S (bound 0)) Nat)) (terms_of O (S O) Nat), ok (terms_of (S O) (S (S O)) Nat))
    ∷ (by_substeq (under Nat (type_of (Vec (bound 0)))) (terms_of O (S O) Nat), ok (types_of (Vec O) (Vec (S O))))
    ∷ (by_substeq (term_of O Nat) (terms_of O (S O) Nat), refused NotAbstracted)
    ∷ (by_substeq (under Nat (terms_of (bound 0) O Nat)) (terms_of O (S O) Nat), refused WrongForm)
    ∷ (by_substeq (under Nat (term_of (S (bound 0)) Nat)) (term_of O Nat), refused WrongForm)
    ∷ (by_substeq (under Nat (term_of (S (bound 0)) Nat)) (terms_of O O Bool), refused (TypeDiffers (differs Bool Nat)))
    ∷ (by_substeq (under Nat (term_of (S (bound 0)) Nat)) (terms_of O big Nat), refused TooBig)
    ∷ [])

-- equality and conversion
abbrev pub EqualityRows : Type 0
EqualityRows = Answer (
    (by_refl x_term, ok (of (terms_of (free 4) (free 4) Nat).statement (var 4 ∷ [])))
    ∷ (by_refl (under Nat (type_of (Vec (bound 0)))), ok (under Nat (types_of (Vec (bound 0)) (Vec (bound 0)))))
    ∷ (by_refl (terms_of O O Nat), refused WrongForm)
    ∷ (by_sym (terms_of O (S O) Nat), ok (terms_of (S O) O Nat))
    ∷ (by_sym (types_of Nat Bool), ok (types_of Bool Nat))
    ∷ (by_sym (term_of O Nat), refused WrongForm)
    ∷ (by_trans (terms_of O (S O) Nat) (terms_of (S O) (S (S O)) Nat), ok (terms_of O (S (S O)) Nat))
    ∷ (by_trans (types_of Nat Bool) (types_of Bool (Vec O)), ok (types_of Nat (Vec O)))
    ∷ (by_trans (terms_of O O Nat) (types_of Nat Nat), refused WrongForm)
    ∷ (by_trans (terms_of O O Nat) (terms_of O O Bool), refused (TypeDiffers (differs Bool Nat)))
    ∷ (by_trans (terms_of O O Nat) (terms_of (S O) (S O) Nat), refused (SidesDiffer (differs (S O) O)))
    ∷ (by_trans (terms_of O O Nat) (terms_of (S O) (S O) Bool), refused (TypeDiffers (differs Bool Nat)))
    ∷ (by_conv x_term (of (types_of Nat Bool).statement (var 7 ∷ [])), ok (of (plain (has_type (free 4) Bool)) (var 4 ∷ var 7 ∷ [])))
    ∷ (by_conv (type_of Nat) (types_of Nat Bool), refused WrongForm)
    ∷ (by_conv (term_of O Nat) (types_of Bool Nat), refused (TypeDiffers (differs Nat Bool)))
    ∷ (by_conveq (terms_of O (S O) Nat) (types_of Nat Bool), ok (terms_of O (S O) Bool))
    ∷ (by_conveq (term_of O Nat) (types_of Nat Bool), refused WrongForm)
    ∷ (by_conveq (terms_of O O Nat) (types_of Bool Nat), refused (TypeDiffers (differs Nat Bool)))
    ∷ [])

-- sides and boundaries
abbrev pub SideRows : Type 0
SideRows = Answer (
    (by_left (under Nat (terms_of (bound 0) O Nat)), ok (under Nat (term_of (bound 0) Nat)))
    ∷ (by_left (types_boundary_of Nat Bool), ok (type_of Nat))
    ∷ (by_left (term_of O Nat), refused WrongForm)
    ∷ (by_right (under Nat (terms_of (bound 0) O Nat)), ok (under Nat (term_of O Nat)))
    ∷ (by_right (type_of Nat), refused WrongForm)
    ∷ (by_typeof (under Nat (term_of O (Vec (bound 0)))), ok (under Nat (type_of (Vec (bound 0)))))
    ∷ (by_typeof (types_of Nat Nat), refused WrongForm)
    ∷ (by_domain (under Nat (term_of O Nat)), ok (type_of Nat))
    ∷ (by_domain (term_of O Nat), refused NotAbstracted)
    ∷ (by_boundary (under Nat (terms_of (bound 0) O Nat)), ok (under Nat (terms_boundary_of (bound 0) O Nat)))
    ∷ (by_widen (term_of O Nat) x_term, ok (of (plain (has_type O Nat)) (var 4 ∷ [])))
    ∷ (by_btype, ok type_boundary)
    ∷ (by_bterm (type_of Nat), ok (term_boundary_of Nat))
    ∷ (by_bterm (term_of O Nat), refused WrongForm)
    ∷ (by_beqty (type_of Nat) (type_of Bool), ok (types_boundary_of Nat Bool))
    ∷ (by_beqty (type_of Nat) (term_of O Nat), refused WrongForm)
    ∷ (by_beqtm (type_of Nat) (term_of O Nat) (term_of (S O) Nat), ok (terms_boundary_of O (S O) Nat))
    ∷ (by_beqtm (type_of Nat) (term_of O Nat) (type_of Nat), refused WrongForm)
    ∷ (by_beqtm (type_of Nat) (term_of O Bool) (term_of O (Vec O)), refused (TypeDiffers (differs Bool Nat)))
    ∷ (by_beqtm (type_of Nat) (term_of O Nat) (term_of O (Vec O)), refused (TypeDiffers (differs (Vec O) Nat)))
    ∷ [])

-- rules at arguments
abbrev pub RuleRows : Type 0
RuleRows = Answer (
    (by_rule (2, successor_rule) (x_term ∷ []), ok (of (plain (has_type (S (free 4)) Nat)) (var 4 ∷ [])))
    ∷ (by_rule (4, fixed_rule) (term_of O Nat ∷ []), ok (terms_of (S O) O Nat))
    ∷ (by_rule (5, sum_rule) (type_of Nat ∷ under Nat (type_of (Vec (bound 0))) ∷ []), ok (type_of (Sum Nat (Vec (bound 0)))))
    ∷ (by_rule (6, fix_rule) (term_of O Nat ∷ terms_of (S O) O Nat ∷ []), ok (term_of (Fix O) Nat))
    ∷ (by_rule (2, successor_rule) [], refused (ArgumentCount 0 1))
    ∷ (by_rule (2, successor_rule) (type_of Nat ∷ []), refused WrongForm)
    ∷ (by_rule (5, sum_rule) (type_of Nat ∷ type_of Nat ∷ []), refused WrongForm)
    ∷ (by_rule (2, successor_rule) (term_of O Bool ∷ []), refused (TypeDiffers (differs Bool Nat)))
    ∷ (by_rule (5, sum_rule) (type_of Nat ∷ under Bool (type_of Nat) ∷ []), refused (TypeDiffers (differs Bool Nat)))
    ∷ (by_rule (6, fix_rule) (term_of O Nat ∷ terms_of O O Nat ∷ []), refused (SidesDiffer (differs O (S O))))
    ∷ (by_rule (6, fix_rule) (term_of big Nat ∷ terms_of O O Nat ∷ []), refused TooBig)
    ∷ (by_rulewith (2, successor_rule) (of (plain (term_goal Nat)) (var 4 ∷ [])) (term_of O Nat ∷ []), ok (of (plain (has_type (S O) Nat)) (var 4 ∷ [])))
    ∷ (by_rulewith (2, successor_rule) (term_boundary_of Nat) [], refused (ArgumentCount 0 1))
    ∷ (by_rulewith (2, successor_rule) (term_boundary_of Nat) (term_of O Bool ∷ []), refused (TypeDiffers (differs Bool Nat)))
    ∷ (by_rulewith (4, fixed_rule) type_boundary (term_of big Nat ∷ []), refused TooBig)
    ∷ (by_rulewith (2, successor_rule) type_boundary (term_of O Nat ∷ []), refused WrongForm)
    ∷ (by_rulewith (2, successor_rule) (term_boundary_of Bool) (term_of O Nat ∷ []), refused (TypeDiffers (differs Bool Nat)))
    ∷ (by_rulewith (4, fixed_rule) (terms_boundary_of (S O) (S O) Nat) (term_of O Nat ∷ []), refused (SidesDiffer (differs (S O) O)))
    ∷ (by_rulewith (2, successor_rule) (term_boundary_of Nat) (term_of big Nat ∷ []), refused TooBig)
    ∷ (by_inst (5, sum_rule) (type_of Nat ∷ []), ok (under Nat type_boundary))
    ∷ (by_inst (2, successor_rule) (x_term ∷ []), ok (of (plain (term_goal Nat)) (var 4 ∷ [])))
    ∷ (by_inst (2, successor_rule) (term_of O Nat ∷ term_of O Nat ∷ []), refused (ArgumentCount 2 1))
    ∷ (by_inst (5, sum_rule) (term_of O Nat ∷ []), refused WrongForm)
    ∷ (by_inst (6, fix_rule) (term_of big Nat ∷ []), refused TooBig)
    ∷ (by_inst (5, sum_rule) (type_of big ∷ []), refused TooBig)
    ∷ [])

-- a symbol at 999 further symbols is as deep as may be, at 1,000 it is too deep
abbrev pub DeepRows : Type 0
DeepRows = Answer (
    (by_rule (2, successor_rule) (term_of (numeral 998) Nat ∷ []), ok (term_of (numeral 999) Nat))
    ∷ (by_rule (2, successor_rule) (term_of (numeral 999) Nat ∷ []), refused TooBig)
    ∷ [])

-- congruence, and arguments moved along equations
abbrev pub CongruenceRows : Type 0
CongruenceRows = Answer (
    (by_cong (2, successor_rule) (x_term ∷ []) (terms_of (free 4) O Nat ∷ []), ok (of (terms_of (S (free 4)) (S O) Nat).statement (var 4 ∷ [])))
    ∷ (by_cong (6, fix_rule) (term_of O Nat ∷ terms_of (S O) O Nat ∷ []) (terms_of O (S O) Nat ∷ []), ok (terms_of (Fix O) (Fix (S O)) Nat))
    ∷ (by_cong (4, fixed_rule) [] [], refused WrongForm)
    ∷ (by_cong (2, successor_rule) [] [], refused (ArgumentCount 0 1))
    ∷ (by_cong (2, successor_rule) (term_of big Nat ∷ []) [], refused TooBig)
    ∷ (by_cong (2, successor_rule) (term_of O Nat ∷ []) (terms_of O O Nat ∷ terms_of O O Nat ∷ []), refused (ArgumentCount 2 1))
    ∷ (by_cong (2, successor_rule) (term_of O Nat ∷ []) (types_of Nat Nat ∷ []), refused WrongForm)
    ∷ (by_cong (2, successor_rule) (term_of O Nat ∷ []) (terms_of (S O) O Bool ∷ []), refused (TypeDiffers (differs Bool Nat)))
    ∷ (by_cong (2, successor_rule) (term_of O Nat ∷ []) (terms_of (S O) O Nat ∷ []), refused (SidesDiffer (differs (S O) O)))
    ∷ (by_cong (2, successor_rule) (term_of O Nat ∷ []) (terms_of O big Nat ∷ []), refused TooBig)
    ∷ (by_convprem (5, sum_rule) (type_of Nat ∷ []) (types_of Nat Bool ∷ []) (under Nat (type_of (Vec (bound 0)))), ok (under Bool (type_of (Vec (bound 0)))))
    ∷ (by_convprem (5, sum_rule) (type_of Nat ∷ []) (types_of Nat Bool ∷ []) (under Bool (type_of (Vec (bound 0)))), refused (TypeDiffers (differs Bool Nat)))
    ∷ (by_convprem (2, successor_rule) (term_of O Nat ∷ []) [] (term_of O Nat), refused (ArgumentCount 1 1))
    ∷ (by_convprem (5, sum_rule) (term_of O Nat ∷ []) [] (term_of O Nat), refused WrongForm)
    ∷ (by_convprem (5, sum_rule) (type_of Nat ∷ []) [] (term_of O Nat), refused (ArgumentCount 0 1))
    ∷ (by_convprem (5, sum_rule) (type_of Nat ∷ []) (types_of Bool Nat ∷ []) (term_of O Nat), refused (SidesDiffer (differs Bool Nat)))
    ∷ (by_convprem (5, sum_rule) (type_of big ∷ []) (types_of big Nat ∷ []) (type_of Nat), refused TooBig)
    ∷ (by_convprem (5, sum_rule) (type_of Nat ∷ []) (types_of Nat big ∷ []) (under Nat (type_of Nat)), refused TooBig)
    ∷ (by_convback (5, sum_rule) (type_of Nat ∷ []) (types_of Nat Bool ∷ []) (under Bool (type_of (Vec (bound 0)))), ok (under Nat (type_of (Vec (bound 0)))))
    ∷ (by_convback (5, sum_rule) (type_of Nat ∷ []) (types_of Nat Bool ∷ []) (under Nat (type_of (Vec (bound 0)))), refused (TypeDiffers (differs Nat Bool)))
    ∷ (by_convback (2, successor_rule) (term_of O Nat ∷ []) [] (term_of O Nat), refused (ArgumentCount 1 1))
    ∷ (by_convback (5, sum_rule) (term_of O Nat ∷ []) [] (term_of O Nat), refused WrongForm)
    ∷ (by_convback (5, sum_rule) (type_of Nat ∷ []) [] (term_of O Nat), refused (ArgumentCount 0 1))
    ∷ (by_convback (5, sum_rule) (type_of Nat ∷ []) (types_of Bool Nat ∷ []) (term_of O Nat), refused (SidesDiffer (differs Bool Nat)))
    ∷ (by_convback (5, sum_rule) (type_of Nat ∷ []) (types_of Nat big ∷ []) (type_of Nat), refused TooBig)
    ∷ (by_convback (5, sum_rule) (type_of big ∷ []) (types_of big Nat ∷ []) (under Nat (type_of Nat)), refused TooBig)
    ∷ [])

-- what an application tells, and instances of whole entries
abbrev pub ApplicationRows : Type 0
ApplicationRows = Answer (
    (by_arg 1 (term_of (S O) Nat), ok (term_of O Nat))
    ∷ (by_arg 2 (type_of (Sum Nat (Vec (bound 0)))), ok (under Nat (type_of (Vec (bound 0)))))
    ∷ (by_arg 2 (term_of (Fix O) Nat), ok (terms_of (S O) O Nat))
    ∷ (by_arg 1 (term_of (at_one 7 O) Nat), ok (term_of O Nat))
    ∷ (by_arg 1 (terms_of (S O) O Nat), refused WrongForm)
    ∷ (by_arg 1 (under Nat (term_of (S O) Nat)), refused WrongForm)
    ∷ (by_arg 1 x_term, refused NotApplication)
    ∷ (by_arg 0 (term_of (S O) Nat), refused (ArgumentCount 0 1))
    ∷ (by_arg 2 (term_of (S O) Nat), refused (ArgumentCount 2 1))
    ∷ (by_arg 1 (term_of (S big) Nat), refused TooBig)
    ∷ (by_natural (term_of (S O) Bool), ok (types_of Nat Bool))
    ∷ (by_natural x_term, ok (of (types_of Nat Nat).statement (var 4 ∷ [])))
    ∷ (by_natural (term_of (at_one 7 O) Bool), ok (types_of Nat Bool))
    ∷ (by_natural (type_of Nat), refused WrongForm)
    ∷ (by_metainst (of (plain (has_type (S (alone 0)) Nat)) (met 0 ∷ [])) ((0, declared (plain (term_goal Nat))) ∷ []) (x_term ∷ []), ok (of (plain (has_type (S (free 4)) Nat)) (var 4 ∷ [])))
    ∷ (by_metainst (of (plain (has_type (S (alone 0)) Nat)) (met 0 ∷ [])) ((0, declared (plain (term_goal Nat))) ∷ []) [], refused (ArgumentCount 0 1))
    ∷ (by_metainst (of (plain (has_type (S (alone 0)) Nat)) (met 0 ∷ [])) ((0, declared (plain (term_goal Nat))) ∷ []) (term_of O Bool ∷ []), refused (TypeDiffers (differs Bool Nat)))
    ∷ (by_metainst (of (plain (has_type (S (alone 0)) Nat)) (met 0 ∷ [])) ((0, declared (plain (term_goal Nat))) ∷ []) (term_of big Nat ∷ []), refused TooBig)
    ∷ [])

-- types by declaration that rest on an argument
abbrev pub NaturalRows : Type 0
NaturalRows = AnswerOver dependent_declarations (
    (by_natural (term_of (at_one 9 O) Nat), ok (types_of (Vec O) Nat))
    ∷ (by_natural (term_of (at_one 9 big) Nat), refused TooBig)
    ∷ [])

-- Declarations.

-- an equation between x and itself, which rests on x, as a boundary
abbrev pub open_boundary : Assertion
open_boundary = of (plain (term_equation_goal (free 4) (free 4) Nat)) (var 4 ∷ [])

-- the rules `Nat type` and `S (n : Nat) : Nat`, drafted one after the other; Nat isn't declared twice; and what rests on x is
-- refused
abbrev pub nat_draft : Draft
nat_draft = record { name = codes "Nat"; premises = [] }

abbrev pub one_rule : Declarations
one_rule = record no_declarations { rules = nat_rule ∷ []; names = codes "Nat" ∷ [] }

abbrev pub successor_draft : Draft
successor_draft = record { name = codes "S"; premises = (0, record { name = codes "n"; boundary = plain (term_goal Nat); set = [] }) ∷ [] }

abbrev pub one_metavariable : Declarations
one_metavariable = record one_rule { metavariables = record { name = codes "n"; boundary = plain (term_goal Nat); set = [] } ∷ [] }

abbrev pub two_rules : Declarations
two_rules = record one_metavariable { rules = nat_rule ∷ successor_rule ∷ []; names = codes "Nat" ∷ codes "S" ∷ [] }

abbrev pub DraftRows : Type 0
DraftRows = (begin no_declarations (codes "Nat") ≡ record { after = no_declarations; answer = Ok nat_draft })
    × (finish no_declarations nat_draft type_boundary ≡ record { after = one_rule; answer = Ok (0, nat_rule) })
    × (begin one_rule (codes "Nat") ≡ record { after = one_rule; answer = Err Duplicate })
    × (premise one_rule (record { name = codes "S"; premises = [] }) (codes "n") (term_boundary_of Nat) ≡ record { after = (one_metavariable, successor_draft); answer = Ok (0, record { name = codes "n"; boundary = plain (term_goal Nat); set = [] }) })
    × (finish one_metavariable successor_draft (term_boundary_of Nat) ≡ record { after = two_rules; answer = Ok (1, successor_rule) })
    × (finish one_rule nat_draft type_boundary ≡ record { after = one_rule; answer = Err Duplicate })
    × (premise declarations nat_draft (codes "p") open_boundary ≡ record { after = (declarations, nat_draft); answer = Err (OpenPremise 1 (var 4)) })
    × (premise one_metavariable successor_draft (codes "p") (of (plain type_goal) (met 0 ∷ met 3 ∷ var 4 ∷ [])) ≡ record { after = (one_metavariable, successor_draft); answer = Err (OpenPremise 2 (met 3)) })
    × (finish one_metavariable successor_draft open_boundary ≡ record { after = one_metavariable; answer = Err (OpenConclusion (var 4)) })

-- variables and metavariables
abbrev pub NewRows : Type 0
NewRows = (new_variable declarations 9 (codes "z") (type_of Nat) ≡ record { after = record declarations { variables = declarations.variables ++ ((9, record { name = codes "z"; annotation = Nat; set = [] }) ∷ []) }; answer = Ok (9, record { name = codes "z"; annotation = Nat; set = [] }) })
    × (new_variable declarations 9 (codes "z") (term_of O Nat) ≡ record { after = declarations; answer = Err WrongForm })
    × (new_metavariable declarations (codes "m") type_boundary ≡ record { after = record declarations { metavariables = declarations.metavariables ++ (record { name = codes "m"; boundary = plain type_goal; set = [] } ∷ []) }; answer = Ok (9, record { name = codes "m"; boundary = plain type_goal; set = [] }) })
    × (new_metavariable declarations (codes "m") open_boundary ≡ record { after = declarations; answer = Err (OpenBoundary 4) })
