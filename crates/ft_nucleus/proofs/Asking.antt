-- The calls that give boundaries, each by its step.
use Rattle.std.proofs.Common.{refl}
use Rattle.ft_items.specs.Equal.{is_thesis}
use Rattle.ft_items.specs.Item.{by_bterm, by_beqty, by_beqtm}
use Rattle.ft_items.specs.Rows.{term_boundary, type_equation_boundary, term_equation_boundary}
use Rattle.ft_reference.specs.Checks.{term_equation_checks}
use Rattle.ft_calls.proofs.Calling.{IsCallOfOne, IsCallOfTwo, IsCallOfThree, one_thesis, two_theses, three_theses}
use Rattle.ft_nucleus.specs.Forms.{term_boundary_checks, type_equation_boundary_checks}

pub asks_term : IsCallOfOne by_bterm by_bterm term_boundary_checks term_boundary
asks_term = record { resolves = λ W p. refl; kind = λ P h. one_thesis (is_thesis P.statement) h; checks_are = λ W P. refl; row_is = λ W P. refl; set_is = λ P. refl }

pub asks_types : IsCallOfTwo by_beqty by_beqty type_equation_boundary_checks type_equation_boundary
asks_types = record { resolves = λ W p q. refl; kind = λ P Q h k. two_theses (is_thesis P.statement) (is_thesis Q.statement) h k; checks_are = λ W P Q. refl; row_is = λ W P Q. refl; set_is = λ P Q. refl }

pub asks_terms : IsCallOfThree by_beqtm by_beqtm term_equation_checks term_equation_boundary
asks_terms = record {
  resolves = λ W p q r. refl;
  kind = λ P Q R h k l. three_theses (is_thesis P.statement) (is_thesis Q.statement) (is_thesis R.statement) h k l;
  checks_are = λ W P Q R. refl;
  row_is = λ W P Q R. refl;
  set_is = λ P Q R. refl;
}
