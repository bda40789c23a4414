-- The cycle of message, field and value readers. The falling number is the text left, twice, and the levels left: a field takes its name
-- off the text, what lies inside a value takes the opener off the text and one level, and a field's value stands where the field does, so that
-- a field and a message count one more. The loop's invariant says what is read and stored so far.
use Prim.Native.Nat.{◌+◌, ◌-◌, ◌*◌}
use lib.ListN.{length}
use Rattle.entries.specs.Noted.{standing}
use Rattle.bodies.proofs.Turns.{Rest}
use Rattle.bodies.proofs.+merge_field_read_message_read_value_of_type.Given as goal

abbrev pub invariant-read_message-loop-t : goal.invariant-read_message-loop-t
invariant-read_message-loop-t l = Rest l.left l.source.schema.image.now l.source.text.now l.w l.closer l.initial.here.spot (standing l.here.spot l.entry) l.here.line l.initial.nodes l.nodes l.initial.pool l.pool

abbrev pub decreases-read_message-loop-t : goal.decreases-read_message-loop-t
decreases-read_message-loop-t l = length l.source.text.now - l.here.spot.at

abbrev pub decreases-merge_field : goal.decreases-merge_field
decreases-merge_field l = 2 * (length l.source.now.text.now - l.here.spot.at) + l.left + 1

abbrev pub decreases-read_message : goal.decreases-read_message
decreases-read_message l = 2 * (length l.source.now.text.now - l.here.spot.at) + l.left + 1

abbrev pub decreases-read_value_of_type : goal.decreases-read_value_of_type
decreases-read_value_of_type l = 2 * (length l.source.now.text.now - l.here.spot.at) + l.left
