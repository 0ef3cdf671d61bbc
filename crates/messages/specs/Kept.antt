-- Packets of the code, as the definitions see them.
use Rattle.std.specs.Prelude.{ℕ, List, [], ◌∷◌, Some, None, Ok, Err, Option, Result}
use Rattle.std.specs.Option.{option_map}
use Rattle.text.specs.Lines.{fields_left}
use Rattle.text.specs.Parts.{at}
use Rattle.text.specs.Short.{text_of}
use Rattle.messages.specs.declared.header.Identifier.{Identifier}
use Rattle.messages.specs.declared.tags.Tag.{Tag}
use Rattle.messages.specs.declared.tags.Tag.TheVariants.{T5, T6, T8, A2, SH}
use Rattle.messages.specs.declared.tags.Tags.{Tags as LentTags}
use Rattle.messages.specs.declared.tags.TagFields.{TagFields}
use Rattle.messages.specs.declared.tags.Unreadable.{Unreadable}
use Rattle.messages.specs.declared.message.Written.{Written as LentWritten}
use Rattle.messages.specs.Messages.{Said, t5, t6, t8, a2, sh, tag_read, Tags, Written}

-- the text of an identifier
abbrev pub identifier_of : Identifier → List ℕ
identifier_of i = text_of i.text

abbrev pub said_of : Tag → Said
said_of (T5 v) = t5 v.now
said_of (T6 v) = t6 v.now
said_of (T8 v) = t8 v.now
said_of (A2 v) = a2 v.now
said_of (SH v) = sh v.now

abbrev pub tags_of : LentTags → Tags
tags_of t =
    record { ctd = option_map at t.ctd; cta = option_map at t.cta; erta = option_map at t.erta; slot = option_map at t.slot; hold = t.hold }

abbrev pub written_of : LentWritten → Written
written_of w =
    record {
      kind = w.kind;
      id = w.flight.id.now;
      departure = w.flight.departure.now;
      arrival = w.flight.arrival.now;
      date = w.flight.date.now;
      tags = tags_of w.tags;
    }

-- the tags that fields are, two to a tag: none where a word is no tag, or has no value
abbrev pub tags_read : List (List ℕ) → List (Option Said)
tags_read [] = []
tags_read (w ∷ []) = None ∷ []
tags_read (w ∷ v ∷ rest) = tag_read w v ∷ tags_read rest

-- what a cursor over tags has yet to give, and what it gives
abbrev pub tags_left : TagFields → List (Option Said)
tags_left c = tags_read (fields_left c.fields)

abbrev pub said_in : Result Tag Unreadable → Option Said
said_in (Ok t) = Some (said_of t)
said_in (Err e) = None
