use Rattle.ft_read.proofs.Whole.{text_read, same_read, text_is_read}
use Rattle.ft_read.proofs.file.read_items.Goals as goal

pub returns : goal.returns
returns c = record {
  items = text_read c.names_are_visible.ensures c.args.bytes.now c.items_of.result c.items_of.ensures.items;
  form = c.items_of.ensures.fault;
  same = same_read c.names_are_visible.ensures c.args.bytes.now c.items_of.result c.items_of.ensures.items;
  read = text_is_read c.names_are_visible.ensures c.args.bytes.now c.items_of.result c.items_of.ensures.fault;
}
