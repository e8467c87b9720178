-- What may be done on a socket. An event comes at a change alone: so where a call gave something,
-- it may give more, and what may be done stays as it was until the socket refuses it.
use Rattle.std.specs.Prelude.{◌≡◌, ◌≤◌, ℕ}
use Rattle.ts_sockets.specs.declared.socket.Socket.{Socket}

-- after a read that gave so many octets
pub record AfterRead (old new : Socket) (count : ℕ) : Type 0 where
  pub readable : 1 ≤ count → new.readable ≡ old.readable
  pub ended : 1 ≤ count → new.ended ≡ old.ended
  pub writable : new.writable ≡ old.writable
  pub shut : new.shut ≡ old.shut

-- after a write that took so many
pub record AfterWrite (old new : Socket) (count : ℕ) : Type 0 where
  pub writable : 1 ≤ count → new.writable ≡ old.writable
  pub readable : new.readable ≡ old.readable
  pub ended : new.ended ≡ old.ended
  pub shut : new.shut ≡ old.shut
