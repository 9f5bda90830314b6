-- The registers and the FIFO as plain data.
use Rattle.std.specs.Prelude.{◌^◌, ◌<◌, ◌≤◌, IsTrue, length, take}
use Rattle.xv_base.specs.Padded.{padded}
use Rattle.xv_bus.specs.Uart.{UartPort, fifo_size, is_trigger}
use Rattle.xv_uart.specs.declared.state.UartState.{UartState}

-- a state that the automaton can hold
pub record IsState (state : UartState) : Type 0 where
  pub ier : state.ier < 2 ^ 4
  pub trigger : IsTrue (is_trigger state.trigger)
  pub mcr : state.mcr < 2 ^ 5
  pub msr : state.msr < 2 ^ 4
  pub fifo : state.fifo_len ≤ fifo_size state.fifo_on

-- the state of a port, whose FIFO is followed by zeros
abbrev pub state_of : UartPort → UartState
state_of port =
    record {
      ier = port.ier;
      fifo_on = port.fifo_on;
      trigger = port.trigger;
      lcr = port.lcr;
      mcr = port.mcr;
      msr = port.msr;
      scr = port.scr;
      dll = port.dll;
      dlm = port.dlm;
      overrun = port.overrun;
      thre = port.thre;
      fifo_len = length port.fifo;
      fifo = padded 16 port.fifo;
    }

-- the port with such a state
abbrev pub with_state : UartPort → UartState → UartPort
with_state port state =
    record port {
      ier = state.ier;
      fifo_on = state.fifo_on;
      trigger = state.trigger;
      lcr = state.lcr;
      mcr = state.mcr;
      msr = state.msr;
      scr = state.scr;
      dll = state.dll;
      dlm = state.dlm;
      overrun = state.overrun;
      thre = state.thre;
      fifo = take state.fifo_len state.fifo;
    }
