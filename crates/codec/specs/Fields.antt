-- The fields of a record's first four bytes (01, "Frame record"; 000, figures 3.2 and 3.13 to 3.15).
use Rattle.std.specs.Prelude.{ℕ, ◌+◌, ◌*◌, ◌/◌, ◌%◌, List, [], ◌∷◌}
use Rattle.laws.specs.Bytes.{bits, byte_at}
use Rattle.codec.specs.declared.Can.{Can}
use Rattle.codec.specs.declared.Header.{Header}

-- a record too short to have a byte reads it as 0 (byte_at). Byte 3 is the attribute, action or event ID (3.2.2.2.1.1)
unfoldable pub header_of : List ℕ → Header
header_of r = record {
  dir = bits 7 7 (byte_at r 0);  -- byte 0: Dir/Pri, 0 where the address is the destination (3.2.1.1)
  address = bits 6 0 (byte_at r 0);  -- and the logical address (3.2.1.2)
  service = bits 7 5 (byte_at r 1);  -- byte 1: the service type, figures 3.4 and 3.6,
  rtr = bits 4 4 (byte_at r 1);  -- RTR (3.2.1.4)
  dlc = bits 3 0 (byte_at r 1);  -- and the data length code, figure 3.7
  response = bits 7 6 (byte_at r 2);  -- byte 2: Request/Response, figure 3.8,
  flag = bits 5 5 (byte_at r 2);  -- the fragmentation indicator, figure 3.11,
  object = bits 4 0 (byte_at r 2);  -- and the embedded object, figure 3.12
  id = byte_at r 3;
}

-- the CAN header that the first two bytes hold (figure 3.2): of the identifier, ID10 to ID3 are byte 0 and ID2 to ID0 the service type
unfoldable pub can_of : List ℕ → Can
can_of r = record { identifier = byte_at r 0 * 8 + (header_of r).service; rtr = (header_of r).rtr; dlc = (header_of r).dlc }

-- and the two bytes that hold it, each field cut to its bits
unfoldable pub can_bytes : Can → List ℕ
can_bytes c = (c.identifier / 8 % 256) ∷ (c.identifier % 8 * 32 + c.rtr % 2 * 16 + c.dlc % 16) ∷ []
