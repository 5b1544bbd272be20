-- The calls on equations, on reflexivity and on weakening, each by its step.
use Rattle.std.proofs.Common.{refl, Some, []}
use Rattle.ft_items.specs.Equal.{is_thesis}
use Rattle.ft_items.specs.Item.{by_refl, by_sym, by_trans, by_conv, by_conveq, by_widen}
use Rattle.ft_items.specs.Rows.{reflexivity, symmetry, transitivity, conversion, equation_conversion}
use Rattle.ft_reference.specs.Checks.{transitivity_checks, conversion_checks, equation_conversion_checks}
use Rattle.ft_calls.proofs.Calling.{IsCallOfOne, IsCallOfTwo, one_thesis, two_theses}
use Rattle.ft_nucleus.specs.Forms.{reflexivity_checks, symmetry_checks}

pub reflexive : IsCallOfOne by_refl by_refl reflexivity_checks reflexivity
reflexive = record { resolves = λ W p. refl; kind = λ P h. one_thesis (is_thesis P.statement) h; checks_are = λ W P. refl; row_is = λ W P. refl; set_is = λ P. refl }

pub symmetric : IsCallOfOne by_sym by_sym symmetry_checks symmetry
symmetric = record { resolves = λ W p. refl; kind = λ P h. one_thesis (is_thesis P.statement) h; checks_are = λ W P. refl; row_is = λ W P. refl; set_is = λ P. refl }

pub transitive : IsCallOfTwo by_trans by_trans transitivity_checks transitivity
transitive = record { resolves = λ W p q. refl; kind = λ P Q h k. two_theses (is_thesis P.statement) (is_thesis Q.statement) h k; checks_are = λ W P Q. refl; row_is = λ W P Q. refl; set_is = λ P Q. refl }

pub converts : IsCallOfTwo by_conv by_conv conversion_checks conversion
converts = record { resolves = λ W p q. refl; kind = λ P Q h k. two_theses (is_thesis P.statement) (is_thesis Q.statement) h k; checks_are = λ W P Q. refl; row_is = λ W P Q. refl; set_is = λ P Q. refl }

pub converts_equation : IsCallOfTwo by_conveq by_conveq equation_conversion_checks equation_conversion
converts_equation = record { resolves = λ W p q. refl; kind = λ P Q h k. two_theses (is_thesis P.statement) (is_thesis Q.statement) h k; checks_are = λ W P Q. refl; row_is = λ W P Q. refl; set_is = λ P Q. refl }

pub widens : IsCallOfTwo by_widen by_widen (λ x y. []) (λ x y. Some x)
widens = record { resolves = λ W p q. refl; kind = λ P Q h k. two_theses (is_thesis P.statement) (is_thesis Q.statement) h k; checks_are = λ W P Q. refl; row_is = λ W P Q. refl; set_is = λ P Q. refl }
