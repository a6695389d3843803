mod Further
