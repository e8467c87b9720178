-- When a file of keys is read again, and what its keys are then. Moments are milliseconds.
use Rattle.std.specs.Prelude.{◌≡◌, ◌≢◌, ◌⊎◌, ℕ, Bool, ◌-◌, nat_le, Option, None, Some}
use Rattle.std.specs.Global.{Vec}
use Rattle.std.specs.declared.time.SystemTime.{SystemTime}
use Rattle.ts_access.specs.declared.key.Key.{Key}
use Rattle.ts_keyring.specs.declared.keyring.Keyring.{Keyring}

-- a second has gone since it was looked at
abbrev pub is_due : Keyring → ℕ → Bool
is_due keyring now = nat_le 1000 (now - keyring.looked)

-- After it was read: the keys are those that it has. Where it can't be used they stay, and so does
-- the moment that it is compared with, so that it is read again.
abbrev pub after_reading : Keyring → Option SystemTime → Option (Vec Key) → Keyring
after_reading keyring changed (Some keys) =
    record keyring { keys = keys; changed = changed; unusable = None }
after_reading keyring changed None = record keyring { unusable = Some changed }

-- It was read, as it was changed last at another moment than when its keys were read: what it had,
-- and when it was changed, come into the keyring together.
pub record HasRead (now : ℕ) (old new : Keyring) : Type 0 where
  pub changed : Option SystemTime
  pub read : Option (Vec Key)
  pub has_changed : old.changed ≢ changed
  pub is : new ≡ after_reading (record old { looked = now }) changed read

-- it was looked at: it was passed over, or read
abbrev pub HasLooked : ℕ → Keyring → Keyring → Type 0
HasLooked now old new = (new ≡ record old { looked = now }) ⊎ HasRead now old new
