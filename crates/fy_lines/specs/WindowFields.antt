-- a window as its fields keep it
use Rattle.std.specs.Prelude.{◌≡◌, ◌≤◌, ◌-◌, slice_range, vec_len}
use Rattle.fy_lines.specs.Windows.{WindowState}
use Rattle.fy_lines.specs.declared.windows.TheConstants.{WINDOW_BYTES}
use Rattle.fy_lines.specs.declared.windows.Window.TheInside.{Inside}

-- what the fields say
abbrev pub window_state : Inside → WindowState
window_state window = record {
  held = slice_range window.buffer.items window.start window.end;
  read = window.read;
}

-- what is held stands in the buffer, and was read
pub record IsSound (window : Inside) : Type 0 where
  pub ordered : window.start ≤ window.end
  pub inside : window.end ≤ WINDOW_BYTES
  pub size : vec_len window.buffer ≡ WINDOW_BYTES
  pub counted : window.end - window.start ≤ window.read
