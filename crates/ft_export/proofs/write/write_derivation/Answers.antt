use Rattle.std.proofs.Common.{rules, suc, ◌≤◌, subst, ℕ, length, take, encode_utf8_all, add-one}
use Rattle.ft_items.specs.Texts.{text_of}
use Rattle.ft_streams.specs.Streams.{Appends, AppendsPrefix}
use Rattle.ft_export.proofs.Joining.{on_error}
use Rattle.ft_export.proofs.Whole.{first_lines, fits_next, written_on, written_whole, item_on_page, end_on_page, front_of_page, stop_before_page, front_of_all}
use Rattle.ft_export.proofs.write.write_derivation.Goals as goal

pub returns-in_err-push_item-clause-front : goal.returns-in_err-push_item-clause-front
returns-in_err-push_item-clause-front g c =
    let O = g.O.Sink in
    on_error c.from_residual-in_err-push_item.result (stop_before_page (O.written c.args.sink.now) (O.written c.loop-i.sink) c.args.k.now.items c.loop-i.i c.loop-i.page c.loop-i.invariant.bytes)

pub returns-in_err-push_str-2-clause-front : goal.returns-in_err-push_str-2-clause-front
returns-in_err-push_str-2-clause-front g c =
    let O = g.O.Sink in
    on_error c.from_residual-in_err-push_str-2.result (stop_before_page (O.written c.args.sink.now) (O.written c.loop-i.sink) c.args.k.now.items c.loop-i.i c.loop-i.page c.loop-i.invariant.bytes)

pub returns-in_err-push_str-3-clause-front : goal.returns-in_err-push_str-3-clause-front
returns-in_err-push_str-3-clause-front g c =
    let O = g.O.Sink in
    on_error c.from_residual-in_err-push_str-3.result (stop_before_page (O.written c.args.sink.now) (O.written c.loop-i.sink) c.args.k.now.items c.loop-i.i c.loop-i.page c.loop-i.invariant.bytes)

pub returns-in_err-page-clause-front : goal.returns-in_err-page-clause-front
returns-in_err-page-clause-front g c =
    let O = g.O.Sink in
    let i : ℕ = c.loop-i.i in
    let h = c.in_ok-push_item.ensures.ok in
    on_error c.from_residual-in_err-page.result (front_of_page (O.written c.args.sink.now) (O.written c.loop-i.sink) (O.written c.write_full.new.sink) c.args.k.now.items (suc i) c.push_str-in-loop-i.new.self
    (item_on_page (O.written c.args.sink.now) (O.written c.loop-i.sink) c.args.k.now.items i h.0 c.loop-i.page _ c.push_str-in-loop-i.new.self c.loop-i.invariant.bytes h.1 h.2.1 c.in_ok-push_str-2.ensures.ok)
    c.in_err-page.ensures.front)

pub loop-i-preserved : goal.loop-i-preserved
loop-i-preserved g c =
    let O = g.O.Sink in
    let items = c.args.k.now.items in
    let i : ℕ = c.loop-i.i in
    let w = O.written c.args.sink.now in
    let w1 = O.written c.loop-i.sink in
    let h = c.in_ok-push_item.ensures.ok in
    let page = c.push_str-in-loop-i.new.self in
    rw add-one (record {
      bytes = written_on w w1 (O.written c.write_full.new.sink) (encode_utf8_all (first_lines (take (suc i) items))) page c.in_ok-page.page
          (item_on_page w w1 items i h.0 c.loop-i.page _ page c.loop-i.invariant.bytes h.1 h.2.1 c.in_ok-push_str-2.ensures.ok) c.in_ok-page.ensures.ok;
      fits = fits_next items i h.0 h.1 c.loop-i.invariant.fits h.2.0;
      calm = search rules;
    })

pub returns-in_err-write_all-clause-front : goal.returns-in_err-write_all-clause-front
returns-in_err-write_all-clause-front g c =
    let O = g.O.Sink in
    let items = c.args.k.now.items in
    let i : ℕ = c.loop-i.i in
    let all : length items ≤ i = search rules in
    let w = O.written c.args.sink.now in
    let w1 = O.written c.loop-i.sink in
    let w2 = O.written c.write_all.new.sink in
    let page = c.push_str-2.new.self in
    on_error c.from_residual-in_err-write_all.result (front_of_all w w1 w2 items page (end_on_page w w1 items i c.loop-i.page page c.loop-i.invariant.bytes all c.in_ok-push_str-3.ensures.ok)
    (subst (λ p. AppendsPrefix w1 p w2) c.bytes.ensures c.in_err-write_all.ensures.front))

pub returns-clause-ok : goal.returns-clause-ok
returns-clause-ok g c =
    let O = g.O.Sink in
    let items = c.args.k.now.items in
    let i : ℕ = c.loop-i.i in
    let all : length items ≤ i = search rules in
    let w = O.written c.args.sink.now in
    let w1 = O.written c.loop-i.sink in
    let w2 = O.written c.write_all.new.sink in
    let page = c.push_str-2.new.self in
    written_whole w w1 w2 (encode_utf8_all (text_of items)) page (end_on_page w w1 items i c.loop-i.page page c.loop-i.invariant.bytes all c.in_ok-push_str-3.ensures.ok)
    (subst (λ p. Appends w1 p w2) c.bytes.ensures c.in_ok-write_all.ensures.ok)
