use Rattle.sds.specs.Border.{message_bytes}
use Rattle.sds.proofs.messages.put_message.Goals as goal

pub returns-in-Plain : goal.returns-in-Plain
unfolding message_bytes
returns-in-Plain c = rw c.in-Plain.is c.put_places-in-Plain.ensures

pub returns-in-Fragment : goal.returns-in-Fragment
unfolding message_bytes
returns-in-Fragment c = rw c.in-Fragment.is c.put_places-in-Fragment.ensures
