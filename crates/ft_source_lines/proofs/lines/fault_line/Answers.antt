use Rattle.std.proofs.Common.{ap}
use Rattle.ft_meaning.specs.Sources.{too_long, no_text, unexpected, too_nested}
use Rattle.ft_source.specs.Contents.{content_of}
use Rattle.ft_source_lines.proofs.Told.{of_each, of_text, of_fault}
use Rattle.ft_source_lines.proofs.lines.fault_line.Goals as goal

pub returns-in-TooLong : goal.returns-in-TooLong
returns-in-TooLong c = of_fault c.too_long_line.result c.args.fault too_long c.args.bytes.now (ap content_of c.in-TooLong.is) (of_each c.too_long_line.result too_long c.args.bytes.now c.too_long_line.ensures)

pub returns-in-NoText : goal.returns-in-NoText
returns-in-NoText c = of_fault c.no_text_line.result c.args.fault (no_text c.in-NoText.byte) c.args.bytes.now (ap content_of c.in-NoText.is) (of_each c.no_text_line.result (no_text c.in-NoText.byte) c.args.bytes.now c.no_text_line.ensures)

pub returns-in-Unexpected : goal.returns-in-Unexpected
returns-in-Unexpected c = of_fault c.unexpected_line.result c.args.fault (unexpected c.in-Unexpected.at) c.args.bytes.now (ap content_of c.in-Unexpected.is) (of_text c.unexpected_line.result (unexpected c.in-Unexpected.at) c.text.result.now c.args.bytes.now c.text.ensures c.unexpected_line.ensures)

pub returns-in-TooNested : goal.returns-in-TooNested
returns-in-TooNested c = of_fault c.too_nested_line.result c.args.fault (too_nested c.in-TooNested.at) c.args.bytes.now (ap content_of c.in-TooNested.is) (of_text c.too_nested_line.result (too_nested c.in-TooNested.at) c.text-in-TooNested.result.now c.args.bytes.now c.text-in-TooNested.ensures c.too_nested_line.ensures)
