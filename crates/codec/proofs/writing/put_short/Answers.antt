use mathlib.Core.Path.{◌∙◌}
use Rattle.octets.specs.Data.{data_of}
use Rattle.codec.specs.Code.{put_short, short_places}
use Rattle.codec.proofs.writing.put_short.Goals as goal

pub returns : goal.returns
unfolding put_short short_places data_of
returns c = c.put_ten.ensures ∙ simp (c.can_header.ensures, c.no_data.ensures)
