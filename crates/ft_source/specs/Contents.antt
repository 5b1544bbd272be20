-- What a fault tells of the bytes of a source.
use Rattle.std.specs.Prelude.{Option, Some, None, IfSome}
use Rattle.ft_meaning.specs.Texts.{Text}
use Rattle.ft_meaning.specs.Sources.{Content, too_long, no_text, unexpected, too_nested, HasContent}
use Rattle.ft_source.specs.declared.fault.SourceFault.{SourceFault}
use Rattle.ft_source.specs.declared.fault.SourceFault.TheVariants.{TooLong, NoText, Unexpected, TooNested, Memory}

-- the content that a fault tells; none where memory was refused
abbrev pub content_of : SourceFault → Option Content
content_of TooLong = Some too_long
content_of (NoText n) = Some (no_text n)
content_of (Unexpected at) = Some (unexpected at)
content_of (TooNested at) = Some (too_nested at)
content_of Memory = None

-- the bytes are what the fault tells; where memory was refused nothing is said of them
abbrev pub HasFault : Text → SourceFault → Type 0
HasFault source fault = IfSome (content_of fault) (HasContent source)
