pub mod ForBenches
