-- How much of host memory there is, and what of it guests may take: what lies behind the root
-- tables of 16 guests.
use Rattle.std.specs.Prelude.{ℕ, ◌-◌, ◌*◌}

-- the bytes of a frame
abbrev pub frame_size : ℕ
frame_size = 4096

-- the frames of a MiB of host memory
abbrev pub mib_frames : ℕ
mib_frames = 256

-- 16 root tables of 16 KiB (Privileged Architecture 20211203, 8.5.1)
abbrev pub root_frames : ℕ
root_frames = 64

-- the frames that guests may take, of so many MiB of host memory
abbrev pub pool_frames : ℕ → ℕ
pool_frames mib = mib_frames * mib - root_frames

-- and the bytes of so many MiB
abbrev pub memory_size : ℕ → ℕ
memory_size mib = frame_size * (mib_frames * mib)
