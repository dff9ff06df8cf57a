use mathlib.Core.Path.{◌∙◌}
use Rattle.codec.specs.Code.{put_long, long_places}
use Rattle.codec.proofs.writing.put_long.Goals as goal

pub returns : goal.returns
unfolding put_long long_places
returns c = c.put_ten.ensures ∙ simp c.can_header.ensures
