use Rattle.std.proofs.Common.{rules, ◌≡◌, ◌∙◌, ap, take, nat_lt, None}
use Rattle.std.proofs.lemmas.List.Sorted.{IsPartitionPoint-from_clause}
use Rattle.ft_items.specs.Store.{variables_in}
use Rattle.ft_stated.specs.First.{greatest_number, number_after}
use Rattle.ft_stated.specs.Lines.{items_in, Listing}
use Rattle.ft_stated.specs.declared.firsts.Greatest.{Greatest}
use Rattle.ft_stated.proofs.GreatestNumbers.{greatest_read, parted_places}
use Rattle.ft_stated.proofs.items.StatedItems.greatest_before.Goals as goal

pub returns : goal.returns
returns c =
    let gs : c.deref.result.now ≡ c.self.inside.firsts.greatest.items = search rules in
    let kept = gs ∙ c.self.invariant.2.greatest_are in
    let places = parted_places c.args.i (items_in c.self.inside.terms c.self.inside.stated.items) c.deref.result.now kept in
    let point = IsPartitionPoint-from_clause (λ (g : Greatest). nat_lt g.place c.args.i) _ _ c.partition_point-n.ensures.partitioned places (λ a r q k. search rules) in
    let read : c.number_after.result ≡ number_after c.partition_point-n.result c.deref.result.now None = search rules in
    read ∙ greatest_read c.args.i (items_in c.self.inside.terms c.self.inside.stated.items) c.deref.result.now c.partition_point-n.result kept point
    ∙ ap (λ (s : Listing). greatest_number (variables_in (take c.args.i s.items))) c.self.view_is
