-- Tables of types that go on.
use Rattle.std.proofs.Common.{◌≡◌, ◌≤◌, ◌∙◌, ◌++◌, sym, ap, List, [], length, append_assoc, append-nil, arith}
use Rattle.std.specs.Prelude.{slice_index_or}
use Rattle.std.proofs.lemmas.List.{length-append}
use Rattle.std.proofs.Math.ListN.{get_or-append}
use Rattle.ft_meaning.specs.Trees.{ValueType, judgement}
use Rattle.ft_types.specs.declared.types.KnownType.{KnownType}
use Rattle.ft_types.specs.Types.{type_in, Below, Extends}
use Rattle.ft_types.proofs.Rows.{below_more, type_kept}

pub extends_same : (ts us : List ValueType) → us ≡ ts → Extends ts us
extends_same ts us h = ([], h ∙ sym (append-nil ts))

pub extends_trans : (ts us vs : List ValueType) → Extends ts us → Extends us vs → Extends ts vs
extends_trans ts us vs a b = (a.0 ++ b.0, b.1 ∙ ap (λ l. l ++ b.0) a.1 ∙ append_assoc ts a.0 b.0)

pub below_extends : (ts us : List ValueType) (t : KnownType) → Extends ts us → Below (length ts) t → Below (length us) t
below_extends ts us t x h =
    let longer : length ts ≤ length us = omega (arith, ap length x.1, length-append ts x.0) in
    below_more (length ts) (length us) t longer h

pub type_extends : (ts us : List ValueType) (t : KnownType) → Extends ts us → Below (length ts) t → type_in us t ≡ type_in ts t
type_extends ts us t x h = type_kept ts us t (λ n lt. ap (λ l. slice_index_or l n judgement) x.1 ∙ get_or-append ts x.0 judgement n lt) h
