-- The numbers of the papers, by name.
use Rattle.std.specs.Prelude.{ℕ, ◌-◌}
use Rattle.octets.specs.Data.{most_data}

-- "records of one fixed size, no header: 10 bytes" (01, "Frame record")
abbrev pub frame_size : ℕ
frame_size = 10

-- where what stands behind the ID, which is byte 3, begins in a record (01, "Frame record"; 000, figures 3.13 and 3.14)
abbrev pub payload_place : ℕ
payload_place = 4

-- "Logical Addresses 0 to 125" (3.2.1.2)
abbrev pub most_address : ℕ
most_address = 125

-- "The valid DLC range in a long form APDU is 2-8" (3.2.2.1.3, figure 3.7)
abbrev pub most_dlc : ℕ
most_dlc = 8

-- a fragment's number and total take two of the six bytes: "maximum APDU size (4 bytes for this service type)" (3.2.2.2.2, figure 3.14)
abbrev pub most_fragment_data : ℕ
most_fragment_data = most_data - 2

-- "Service Types 4–7 (Read, Write, Action, Event)" (3.2.2.2)
abbrev pub lowest_long : ℕ
lowest_long = 4

-- short form service types (figure 3.4)
abbrev pub change_off : ℕ
change_off = 0

abbrev pub change_on : ℕ
change_on = 1

abbrev pub change_off_ack : ℕ
change_off_ack = 2

abbrev pub change_on_ack : ℕ
change_on_ack = 3

abbrev pub write_off : ℕ
write_off = 4

abbrev pub write_on : ℕ
write_on = 5

abbrev pub write_off_ack : ℕ
write_off_ack = 6

abbrev pub write_on_ack : ℕ
write_on_ack = 7

-- long form service types (figure 3.6)
abbrev pub write_service : ℕ
write_service = 4

abbrev pub read_service : ℕ
read_service = 5

-- Request/Response (figure 3.8)
abbrev pub request : ℕ
request = 0

abbrev pub successful : ℕ
successful = 1

abbrev pub erroneous : ℕ
erroneous = 2
