pub mod HoursCalls
